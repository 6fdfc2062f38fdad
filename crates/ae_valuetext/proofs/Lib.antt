pub mod NormalForms
pub mod TextLaws
