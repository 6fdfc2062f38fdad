mod Whole
mod Kept
mod Sums
