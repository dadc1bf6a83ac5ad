pub mod JoinLaws
pub mod LeastLaws
pub mod NumberLaws
pub mod PairLaws
pub mod SeenLaws
