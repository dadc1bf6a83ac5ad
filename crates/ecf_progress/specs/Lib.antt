pub mod Charges
pub mod Outcomes
pub mod Progress
pub mod ReadCells
pub mod Segments
pub mod Undo
