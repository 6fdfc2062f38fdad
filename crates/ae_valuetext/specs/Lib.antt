-- Read Texts: how linear forms and values are spelled. Then which of them have a text, and how they are read: Wholes has whole numbers that pass a test, with the byte
-- that closes them, Parts the factors and names of a linear form, Lins whole forms, and Values all values.
pub mod Lins
pub mod Parts
pub mod Texts
pub mod Values
pub mod Wholes
