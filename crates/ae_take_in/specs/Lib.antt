-- Computing (names whose numbers arithmetic computes, and such a number), Widths (steps on the numbers of a name's operands that leave the limits), then
-- TakingWidths (the same of a new name). Inner says what holds while names are taken in one after another.
pub mod Computing
pub mod Widths
pub mod TakingWidths
pub mod Inner
