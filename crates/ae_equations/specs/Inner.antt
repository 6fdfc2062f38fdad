-- What holds of the links and places between the calls.
pub mod Chained
pub mod Placed
pub mod Holding
