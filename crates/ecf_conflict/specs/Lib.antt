pub mod Laws
pub mod Least
pub mod Numbering
pub mod Pairs
pub mod Seen
