pub mod Words
pub mod Receipts
pub mod Entries
pub mod Stops
pub mod Cells
pub mod Journal
