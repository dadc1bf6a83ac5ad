pub mod BitLaws
pub mod CheckLaws
pub mod EdgeLaws
pub mod RoundLaws
pub mod RowLaws
