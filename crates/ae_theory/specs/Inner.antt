-- What the functions of the theory of constants need. A reader need not believe any of it.
pub mod Trees
pub mod Hops
