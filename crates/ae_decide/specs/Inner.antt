-- What no reader needs: decisions that the tests are built with.
pub mod Decisions
