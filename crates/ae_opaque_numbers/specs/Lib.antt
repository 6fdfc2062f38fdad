-- Numbers that are their own values.
pub mod Opaque
