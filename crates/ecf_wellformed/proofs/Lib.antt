pub mod CounterLaws
pub mod NumberingLaws
