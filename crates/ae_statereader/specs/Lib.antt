-- Lines: lines that are read one after another, until one begins with another byte. Items: how a line of each kind is read. States: the whole. Which state a text is that
-- of says the grammar of ae_stategrammar.
pub mod Items
pub mod Lines
pub mod States
