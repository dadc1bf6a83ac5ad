pub mod Standing
pub mod RowSet
pub mod Links
pub mod Kept
pub mod Laws
