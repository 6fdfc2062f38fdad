pub mod ChoiceForms
pub mod WholeForms
