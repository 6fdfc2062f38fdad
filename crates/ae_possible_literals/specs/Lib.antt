-- Which literals may stand. Read Filled: what an open trail has then.
pub mod Filled
