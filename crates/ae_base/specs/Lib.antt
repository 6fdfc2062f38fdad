-- Words that every crate's definitions use, each by itself: values that may be absent, decisions as truth values, lists related place by
-- place.
pub mod Options
pub mod Decided
pub mod Relations
