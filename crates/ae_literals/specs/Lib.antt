-- Assumed literals: what they say of the names of a store (Said), which of them isn't met by representatives (Unmet), and what a state has to have
-- besides, so that its literals are met (Had).
pub mod Said
pub mod Unmet
pub mod Had
pub mod Inner
