-- What holds while names enter. A reader need not believe any of it.
pub mod Choosing
