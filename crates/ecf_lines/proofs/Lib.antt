pub mod PartLaws
pub mod FitLaws
pub mod SaidLaws
pub mod SpelledLaws
