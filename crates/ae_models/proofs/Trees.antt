-- An interpretation of each lawful signature: its things are trees.
pub mod Wholes
pub mod Shapes
pub mod Inhabited
pub mod Model
