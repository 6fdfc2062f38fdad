-- Applied (the name of the application of a head to a name), then Stripping (what a name comes down to, and when steps say so). Inner says of
-- nodes what these say of terms.
pub mod Applied
pub mod Stripping
pub mod Inner
pub mod Laws
