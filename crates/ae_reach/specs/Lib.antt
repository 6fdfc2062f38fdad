-- Which goals one run of the solver answers (Reach); what occurs in a goal, for which goals a search decides nothing, and the terms that bound its lines (Budget).
pub mod Reach
pub mod Budget
