pub mod Pairs
pub mod Laws
pub mod OrderLaws
pub mod PairLaws
pub mod StoreLaws
pub mod CutLaws
