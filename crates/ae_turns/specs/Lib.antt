-- Steps of saturation, each from what is held with a journal to what is held with the journal afterwards. Read in this order: what each step keeps
-- (Leading); representatives of names (Representing); widths and rules when a step ends (Ending); the rules when the passes over them are done (Cleared);
-- how many lines may be noted (Budget). Inner is lines that drop rules.
pub mod Leading
pub mod Representing
pub mod Ending
pub mod Cleared
pub mod Budget
pub mod Inner
