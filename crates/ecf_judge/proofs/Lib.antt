pub mod MembershipLaws
pub mod ObjectLaws
pub mod TraceLaws
pub mod WalkLaws
