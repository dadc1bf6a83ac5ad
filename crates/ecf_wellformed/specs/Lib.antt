pub mod Typing
pub mod WellFormed
pub mod Cases
pub mod Numbering
