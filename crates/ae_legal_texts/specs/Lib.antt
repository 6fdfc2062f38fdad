-- Which values have a text. Numbers says which numbers a text shows and within which limits they have to be; Writable says what a line and a
-- proof text have to be beside. What is well sorted is said where sorts and derivations are defined.
pub mod Numbers
pub mod Writable
