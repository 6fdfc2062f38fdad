-- Rules says how a derived line's rule and an ending, Lines how the lines of a block and of a proof. What
-- stands inside is read by the grammar's own code.
pub mod Rules
pub mod Lines
