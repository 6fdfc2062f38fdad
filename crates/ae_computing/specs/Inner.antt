-- The test, in this order.
pub mod Operations
pub mod Exact
pub mod Totals
pub mod Computed
