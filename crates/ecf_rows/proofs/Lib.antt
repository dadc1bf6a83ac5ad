pub mod WordLaws
pub mod LevelLaws
pub mod RangeLaws
pub mod TurnLaws
pub mod PlaceLaws
pub mod FindLaws
pub mod LinkLaws
pub mod ExtendLaws
