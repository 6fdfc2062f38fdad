-- What stays of generations and of instances where lines come later (Laws).
pub mod Laws
