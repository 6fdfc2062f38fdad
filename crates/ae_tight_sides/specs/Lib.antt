-- The sides of rows of tight sums. Read: what the sides of a row are (Sides), and which lines end with a rounding (Rounded).
pub mod Sides
pub mod Rounded
