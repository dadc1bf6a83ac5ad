pub mod Chains
pub mod Count
pub mod Plan
pub mod Shelf
pub mod Sink
pub mod Source
