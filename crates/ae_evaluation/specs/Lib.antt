-- What is proved of evaluation in completed systems. Read Shapes, Names, Consequences, Enumerations and Saturation in this order, then Examples, to which
-- they apply. They speak of completed systems, evaluation, truth, saturated states and the ground fragment of ae_journal (Systems, Evaluate, States, Ground),
-- and of consequence and derivations of ae_rules (Lines, Derivations).
pub mod Shapes
pub mod Names
pub mod Consequences
pub mod Enumerations
pub mod Saturation
pub mod Examples
