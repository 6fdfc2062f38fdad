-- Lemmas of lower libraries, passed on with their words.
pub use Rattle.ae_filled_trails.proofs.Filling.{formula_sorted, in_some, names_of}
pub use Rattle.ae_kept_orders.proofs.Passed.{sides_named, sides_sorted}
pub use Rattle.ae_kept_orders.proofs.Staying.{orders_begin, orders_stay}
