-- What a theory promises to a solver. Read in this order: assumed literals (Tagged), names of terms (Names), what a theory notes and what it
-- explains (Noting). Then a theory of equations between names: how it keeps its earlier states (Paths), and which names its equations make the
-- same (Classes). Inner holds nothing to be believed.
pub mod Tagged
pub mod Names
pub mod Noting
pub mod Paths
pub mod Classes
pub mod Inner
