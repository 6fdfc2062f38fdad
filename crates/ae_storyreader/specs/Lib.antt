-- Lines: how a line of a journal is read by its first word. Stories: whole journals. Widths: widths with their journals, and what their reader answers. Which journal or
-- width a text is that of says the grammar of ae_stategrammar.
pub mod Lines
pub mod Stories
pub mod Widths
