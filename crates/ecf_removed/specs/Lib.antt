pub mod Contents
pub mod LoneRuns
pub mod Laws
