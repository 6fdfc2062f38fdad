-- A round of the inequalities: what is kept (Orders), and what a round comes to (Comes). Inner holds nothing to be believed.
pub mod Orders
pub mod Comes
pub mod Inner
