-- Read Files: what the typing of a file answers. Nothing in Inner has to be believed.
pub mod Files
pub mod Inner
