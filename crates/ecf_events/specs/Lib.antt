pub mod Line
pub mod Spelled
pub mod Stream
pub mod Laws
pub mod Cases
