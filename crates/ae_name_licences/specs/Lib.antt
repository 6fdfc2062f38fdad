-- Names in step with a journal, and names to be joined (Joining); which `solve` lines and which widths a journal admits (Laws).
pub mod Joining
pub mod Laws
