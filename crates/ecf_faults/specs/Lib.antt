pub mod Tables
pub mod Expressions
pub mod Statements
pub mod Declarations
pub mod Forms
pub mod Least
pub mod Cases
pub mod Files
