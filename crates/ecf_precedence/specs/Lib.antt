pub mod EndLemmas
pub mod Laws
pub mod Newest
pub mod NewestLemmas
