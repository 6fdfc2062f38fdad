-- To be believed, in this order: Spellings (how words and signs are written), Lexis (the tokens of a text and its fault).
-- Inner says what the lexer's parts answer: nothing of it stands in a public contract.
pub mod Spellings
pub mod Lexis
pub mod Inner
