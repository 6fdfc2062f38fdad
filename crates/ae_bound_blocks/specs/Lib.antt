-- Blocks of rows that can't hold. Read in this order: the rows that a row is made of and the tags under which they were assumed (Ancestors), the facts
-- that say rows, and what lines give an assumed row (Said); then the rows of a tight sum (Tight). Inner holds nothing to be believed.
pub mod Ancestors
pub mod Said
pub mod Tight
pub mod Inner
