pub mod Sums
pub mod Crews
