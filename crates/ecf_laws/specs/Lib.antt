pub mod Parts
pub mod Replay
pub mod Laws
pub mod FrameLaws
