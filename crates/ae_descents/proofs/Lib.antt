pub mod Descending
