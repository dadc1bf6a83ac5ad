pub mod Continuations
pub mod Initial
pub mod Load
pub mod Parts
pub mod Returns
pub mod Setting
pub mod Steps
