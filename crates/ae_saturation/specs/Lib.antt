-- Saturation. What it promises is said by the words of what is held and of its steps, and by when a result lasts (Lasting); Inner is what a turn comes
-- to, and all turns together.
pub mod Lasting
pub mod Inner
