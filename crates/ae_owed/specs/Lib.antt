-- Instances: which matches are owed. Read in this order: what was noted, and the generations that formulas have by it (Instances); which terms a store knows
-- at a number, and matches among them (Known); when generations in a store are right (Generations); instances beside a journal (Recorded); when no instance
-- is owed (Owed); what these give (Laws).
pub mod Instances
pub mod Known
pub mod Generations
pub mod Recorded
pub mod Owed
pub mod Laws
