pub mod Views
pub mod Sorts
pub mod Summaries
pub mod Passes
pub mod Checks
