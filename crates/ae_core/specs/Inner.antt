-- Facts that definitions of other crates are built with, and no meanings: induction on sorts, terms and formulas, and that the orders are
-- orders of maps.
pub mod Induction
pub mod TreeOrder
