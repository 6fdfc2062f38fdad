pub mod TokenAt
-- Steps, Acts, Levels: what the machine does. GrammarToMachine, Files: it reads what the grammar relates to tokens. Pieces,
-- ViablePrefix, Continuation, Stops, Whole: what it reads is of the grammar, and where it stops no file goes on.
-- ParserMeetsMachine: what the parser's functions answer is what the machine does. FileLaws, Places: the laws.
pub mod Steps
pub mod Acts
pub mod Levels
pub mod GrammarToMachine
pub mod Files
pub mod Stops
pub mod Pieces
pub mod ViablePrefix
pub mod Continuation
pub mod Whole
pub mod SameKinds
pub mod ParserMeetsMachine
pub mod FileLaws
pub mod Places
