-- What a journal, and a width with its journal, has to be beside legal, to have a text.
pub mod Writable
