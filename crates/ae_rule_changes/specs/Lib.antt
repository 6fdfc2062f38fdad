-- What the calls of ae_monoid change, for lines that are in step. Read in this order: kept rules without their justifications (Entries), the laws (Laws).
pub mod Entries
pub mod Laws
