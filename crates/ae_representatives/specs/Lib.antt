-- Names with their representatives, and steps that equate the two (Equal).
pub mod Equal
