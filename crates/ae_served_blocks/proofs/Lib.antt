pub mod Bodies
pub mod Served
