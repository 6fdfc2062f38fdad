-- When the widths of the making of the point of kept rows are licensed: where no combination is left (Laws), and where rows over fractions were closed (Fractions).
pub mod Laws
pub mod Fractions
