pub mod Judged
pub mod Membership
pub mod Walks
