pub mod GoalItems
pub mod Outside
pub mod Kept
pub mod Shown
pub mod Ground
