-- Values put for names (Put), and all values mapped at once (Mapped).
pub mod Put
pub mod Mapped
