-- What a state shows has to be, to have a text.
pub mod Writable
