-- Lines that drop rules.
pub mod Drops
