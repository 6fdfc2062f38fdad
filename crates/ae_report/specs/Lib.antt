-- Read Lines: the line by which a text is refused, and at which line and column. It stands on the places of faults in
-- ae_lex (Lexis) and ae_syntax (Files).
pub mod Lines
