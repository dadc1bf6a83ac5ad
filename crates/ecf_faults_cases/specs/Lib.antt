pub mod Bodies
pub mod Names
pub mod Types
pub mod Declared
pub mod Limits
