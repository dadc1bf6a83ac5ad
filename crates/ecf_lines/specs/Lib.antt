pub mod Line
pub mod Spelled
pub mod LineLaws
pub mod Stream
pub mod Cases
