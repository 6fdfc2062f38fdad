-- Read AnswerTexts: what is written of a goal and its answer, over the texts of states, journals and widths of ae_stategrammar's StateTexts.
pub mod AnswerTexts
