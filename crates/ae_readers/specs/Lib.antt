-- Read Readers first: what a reader answers (`ReadsExactly`), and over which codes of ae_codes. Denominators and Names hold the codes of what may stand below a
-- stroke and of the names of a table.
pub mod Denominators
pub mod Names
pub mod Readers
