-- Names and patterns of different values, and how the equation of two names is taken up.
pub mod Apart
pub mod Taking
