mod ReadLaws
mod SegmentLaws
mod StateSteps
mod UndoLaws
