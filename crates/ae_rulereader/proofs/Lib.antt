pub mod SymbolLists
pub mod SymbolReading
