pub mod Closure
pub mod Fed
pub mod Pairs
pub mod Reads
pub mod Sound
pub mod Watched
pub mod Widening
