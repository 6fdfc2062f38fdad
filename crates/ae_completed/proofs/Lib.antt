pub mod JoinTests
pub mod Together
