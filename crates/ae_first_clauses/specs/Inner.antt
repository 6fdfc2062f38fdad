-- What holds while the lines are put together. A reader need not believe any of it.
pub mod Begun
