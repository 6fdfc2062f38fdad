mod ChainLaws
pub mod QueueLaws
mod TakenOut
mod Lasting
