-- Values before and after a change.
pub mod Before
pub mod Putting
pub mod Leading
pub mod Leaving
