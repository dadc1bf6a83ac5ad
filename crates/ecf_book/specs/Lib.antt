pub mod Recorded
pub mod Answering
pub mod Works
pub mod Kept
pub mod Held
pub mod Steps
