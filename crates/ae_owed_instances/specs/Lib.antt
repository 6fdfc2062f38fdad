-- What the functions of this crate need. A reader need not believe any of it: the public contract speaks of ae_between_rounds alone.
pub mod Inner
