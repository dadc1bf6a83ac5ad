pub mod BlockLaws
pub mod ExchangeLaws
pub mod RankLaws
pub mod WrittenLaws
