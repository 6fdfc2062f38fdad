mod Named
mod Kept
