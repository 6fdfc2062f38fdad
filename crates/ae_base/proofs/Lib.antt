-- What follows from the words of specs/ and of the library, for proofs of every crate. A statement over library types alone has its one
-- home here, unless the library has it: `rt lemma WORD` finds those.
pub mod Tests
pub mod Decided
pub mod Options
pub mod ListFacts
pub mod AllOf
pub mod Relations
pub mod Results
pub mod Integers
pub mod Orders
