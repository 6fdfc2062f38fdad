pub mod SortedItems
