-- When a step that leaves the limits, met in the making of a point, is licensed by a journal: read Laws, after ae_journal's licences and ae_ineq's Widths.
pub mod Laws
