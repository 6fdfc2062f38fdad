-- The words of the command line. To be read in this order: which words are right and what they state (Words); the program's options as the rules by which
-- clap reads words, and what their values state (Program); some words with what they state (Examples).
pub mod Words
pub mod Program
pub mod Examples
