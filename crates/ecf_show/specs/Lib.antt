pub mod Marks
pub mod Expressions
pub mod Statements
pub mod Files
pub mod Forms
pub mod Cases
