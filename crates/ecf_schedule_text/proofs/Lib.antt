pub mod NameLaws
pub mod PairLaws
pub mod EventLaws
