-- The rewriting state. What it holds is said by the words of ae_state; read what it knows to be complete (Known), and then what a mark brings back (Marks).
pub mod Known
pub mod Marks
