-- What matching sees of a store (Seen), and what is found of the matches among its terms (Matches).
pub mod Seen
pub mod Matches
