pub mod RunLaws
pub mod CommittedLaws
