pub mod Recursion
pub mod PuttingLaws
pub mod SortLaws
pub mod SortFacts
pub mod PutSorts
pub mod ClosedSorts
pub mod TreeLaws
pub mod OrderLaws
