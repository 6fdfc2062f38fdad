-- To be read in this order: which applications are computed (Computed); at which names a term is looked for (Nodes, Sites).
pub mod Computed
pub mod Nodes
pub mod Sites
