-- What the parser's functions answer, put together of what the functions that they call answer.
pub mod Steps
pub mod Levels
pub mod Exprs
pub mod OpenExprs
pub mod Atoms
pub mod Items
pub mod Braces
pub mod Decls
