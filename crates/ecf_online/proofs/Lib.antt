pub mod ClosureLaws
pub mod FirstLaws
pub mod OrderLaws
pub mod PairLaws
pub mod ReadLaws
pub mod SoundLaws
pub mod WatchLaws
pub mod WideningLaws
