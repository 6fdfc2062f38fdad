-- Operations on names (Operations), what a new name gets (Next), and names that are taken in one after another (Taking).
pub mod Operations
pub mod Next
pub mod Taking
