-- Read Demo: the text, its opening lines and the four kinds of goals.
pub mod Demo
