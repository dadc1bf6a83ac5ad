pub mod LexemeLaws
pub mod CutLaws
pub mod ReadingLaws
