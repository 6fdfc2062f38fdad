-- Forms (what an exact form over names means, and when it is that of a term), then Tables (the forms of all names). Rules reads the program's
-- table of computed arithmetic as that of the calculus.
pub mod Forms
pub mod Tables
pub mod Rules
