-- Inner says what the parts of a sweep's taking up find, and what they leave.
pub mod Inner
