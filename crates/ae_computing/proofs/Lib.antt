pub mod ExactLaws
pub mod NumberLaws
pub mod TotalLaws
pub mod OperationLaws
pub mod TotalTests
pub mod ComputedTests
