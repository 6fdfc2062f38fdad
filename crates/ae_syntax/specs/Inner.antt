-- Which kinds are told to be the same (SameKinds), how tokens are read (Machine), and what the parser's functions answer by it (Reading, ReadingDecls).
pub mod SameKinds
pub mod Machine
pub mod Reading
pub mod ReadingDecls
