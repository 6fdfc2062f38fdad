-- The constants of the blocks that a search opened.
pub mod Blocks
