-- What holds of the nodes between the calls.
pub mod Nodes
