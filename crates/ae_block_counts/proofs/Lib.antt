pub mod Seen
pub mod Numbers
pub mod Blocks
pub mod Opening
