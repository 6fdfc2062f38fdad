-- Terms with their parts (Closed), values in step with the `solve` lines that stand (InStep), and the laws (Laws).
pub mod Closed
pub mod InStep
pub mod Laws
