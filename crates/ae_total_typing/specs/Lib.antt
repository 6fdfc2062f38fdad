-- The laws speak of the definitions of typing, of sizes and of unifiers where these stand, and of Told: what is told from a typed tree.
pub mod Told
