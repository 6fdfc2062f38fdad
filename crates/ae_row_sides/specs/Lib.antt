-- The sides of a row of sort `int`. Read: what is asked of a row's names (Names), and the laws (Laws). Inner holds nothing to be believed.
pub mod Names
pub mod Laws
pub mod Inner
