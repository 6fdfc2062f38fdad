pub mod Following
pub mod Moving
pub mod Rising
pub mod Recording
pub mod Ages
pub mod Young
pub mod Saturated
