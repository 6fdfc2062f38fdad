mod Adding
mod Going
mod Lines
mod Solved
