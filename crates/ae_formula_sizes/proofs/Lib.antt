mod Ceilings
mod SortSizes
mod TermSizes
mod FormulaSizes
