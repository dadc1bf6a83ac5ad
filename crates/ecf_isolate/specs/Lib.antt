pub mod RunEnds
pub mod Committed
