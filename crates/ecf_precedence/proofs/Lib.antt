pub mod CoverLaws
pub mod PathLaws
pub mod PlacementLaws
pub mod StepLaws
