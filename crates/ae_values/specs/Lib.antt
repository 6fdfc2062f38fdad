-- Widths says which step of a put leaves the limits; Inner has what stands before a change, and while it is made.
pub mod Widths
pub mod Inner
