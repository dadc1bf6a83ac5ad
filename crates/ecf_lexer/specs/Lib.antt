pub mod Front
pub mod LexFault
pub mod Progress
