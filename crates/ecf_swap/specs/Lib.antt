pub mod Insertion
pub mod WrittenOut
