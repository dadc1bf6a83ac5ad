pub mod Places
pub mod Pages
pub mod Grown
pub mod Leaves
pub mod Rows
