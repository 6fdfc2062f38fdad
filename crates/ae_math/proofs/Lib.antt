pub mod FractionLaws
pub mod FractionOrder
pub mod Wholes
pub mod Divisors
pub mod FormLaws
