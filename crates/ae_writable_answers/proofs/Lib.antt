pub mod Firsts
pub mod Refuted
pub mod Settled
