-- The contract of the public function speaks of what lower crates say. Inner holds nothing to be believed.
pub mod Inner
