-- Rules that are dropped together. Read in this order: what is taken out (Passes), and the laws (Laws).
pub mod Passes
pub mod Laws
