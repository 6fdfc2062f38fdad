pub mod Records
pub mod Falls
pub mod Standing
pub mod Joining
pub mod Known
pub mod Outer
