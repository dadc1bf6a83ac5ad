pub mod WordLaws
pub mod FedLaws
pub mod SayLaws
pub mod StepLaws
pub mod PieceLaws
pub mod ReachLaws
pub mod ReadLaws
