-- The sweep over what a state holds of a store: what it is given (Given), and what it finds to be left to do (Gaps). Where it finds nothing, the
-- state is swept (ae_settled). Inner is what its parts find.
pub mod Given
pub mod Gaps
pub mod Inner
