pub mod OneSort
pub mod Extended
mod Making
