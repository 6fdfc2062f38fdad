-- Steps that equate multisets of names. Read Equating: what such a step rests on, and of which names it is.
pub mod Equating
pub mod Inner
