-- What holds while a search is put together. A reader need not believe any of it.
pub mod First
