-- Names whose terms are of the ground fragment.
pub mod Terms
