-- Laws says what holds of names that are taken in.
pub mod Laws
