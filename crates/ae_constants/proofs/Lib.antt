pub mod EnterLaws
pub mod ExactLaws
pub mod TableLaws
