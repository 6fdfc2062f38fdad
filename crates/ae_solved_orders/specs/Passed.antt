-- What lower libraries say of kept rows, of searches and of open orders, passed on, so that those who stand on this need not name them.
pub use Rattle.ae_filled_trails.specs.Ordered.{AreOrdered}
pub use Rattle.ae_kept_orders.specs.Orders.{AreOrdersOf}
pub use Rattle.ae_kept_orders.specs.Rows.{AreInStepWith, IsTold, KeptRows, Solved, literals_to}
