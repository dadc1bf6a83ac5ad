pub mod Numbered
pub mod Overlaid
pub mod Writes
