-- What the parts of a sweep find where nothing is left to do.
pub mod Parts
pub mod Entered
