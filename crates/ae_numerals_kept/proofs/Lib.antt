pub mod Layers
pub mod Put
pub mod Outside
pub mod Parts
pub mod Lowest
