-- Separators: where an input that is to be checked is parted. Inner has what the scan keeps; nothing of it is believed.
pub mod Separators
pub mod Inner
