-- Journals as examples: what the definition of a legal journal allows and refuses of them.
-- Examples has the problem and the journal of the worked example; Laws has the statements.
pub mod Examples
pub mod EveryKind
pub mod Laws
