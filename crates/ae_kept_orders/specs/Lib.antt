-- Rows that a search keeps. Read: when they are right for it (Orders); how they stay so (Laws). Rows and Searches pass on what lower libraries say of kept rows and of searches.
pub mod Orders
pub mod Laws
pub mod Rows
pub mod Searches
