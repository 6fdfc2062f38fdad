-- What `Combine` lines leave as it is, and which of them are legal: read Laws.
pub mod Laws
