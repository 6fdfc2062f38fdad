-- Renewed says what values and steps a step of saturation may leave.
pub mod Renewed
