-- Numbers of names (Keys), and what stands in buckets (Buckets).
pub mod Keys
pub mod Buckets
