-- What an answer has to be to have a text, beside what holds of whatever is in memory: that the numbers it counts with have 64 bits.
-- Read Numbers (which numbers are limited by what), then Writable (proofs, states, journals).
pub mod Numbers
pub mod Writable
