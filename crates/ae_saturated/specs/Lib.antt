-- Means has what an answer says of a state, and Open the states of which neither yes nor no is said. The other files have tests as functions.
pub mod Open
pub mod Means
pub mod Literals
pub mod Names
pub mod Order
pub mod Firsts
pub mod State
