-- Two numbers to be made equal (Equated), a number that is to be put for a name (Solving), and the steps that leave the limits (Widths).
pub mod Equated
pub mod Solving
pub mod Widths
