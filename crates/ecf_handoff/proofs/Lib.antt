pub mod AccountLaws
pub mod BalanceLaws
pub mod ContentLaws
