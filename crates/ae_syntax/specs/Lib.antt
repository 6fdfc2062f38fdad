-- To be believed, in this order: Kinds (what a token stands for), Parts (what each production builds), Grammar (which
-- tokens are which tree), Depth (the depth of each token), Files (what a file is, and what each fault). Inner is how the
-- parser is proved: nothing of it stands in a public contract.
pub mod Kinds
pub mod Parts
pub mod Grammar
pub mod Depth
pub mod Files
pub mod Inner
