-- Formulas says how a formula is read, byte by byte, Literals the same of a literal; what stands inside is read by the grammar's own code.
pub mod Formulas
pub mod Literals
