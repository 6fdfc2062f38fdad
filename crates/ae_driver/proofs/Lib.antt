pub mod OneProblem
pub mod Answered
pub mod Fronts
pub mod Checked
pub mod Passing
pub mod Counting
pub mod DemoProblems
