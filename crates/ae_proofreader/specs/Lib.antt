-- Read Whole of ae_choices first: what the reader of a whole text answers, over the grammar's code of proof texts; Whole here says where a fault stands. Places and Versions
-- say how the places of axioms and the first lines of a text are read.
pub mod Places
pub mod Versions
pub mod Whole
