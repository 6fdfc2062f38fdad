-- When the lines that stand in a journal are in step with rules, pairs and waiting equations. Read in this order: where rules and equations come from
-- (Lineage); what is in step (InStep); how rules, pairs and equations change (Changes); what keeps the lines in step, and which lines may come (Laws).
pub mod Lineage
pub mod InStep
pub mod Changes
pub mod Laws
