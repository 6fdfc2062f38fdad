-- What the lexer's parts answer.
pub mod Pieces
pub mod KeptTokens
