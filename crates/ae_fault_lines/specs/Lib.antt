-- Read Lines: the line by which a text without a typing is refused. It stands on the places of lines in ae_report (Lines).
pub mod Lines
pub mod Inner
