-- Fields and written records as nodes, and the steps between names of fields.
pub mod FieldNodes
pub mod Saying
