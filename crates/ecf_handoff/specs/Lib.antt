pub mod Accounts
pub mod Balance
pub mod Content
pub mod Handoffs
