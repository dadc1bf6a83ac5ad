pub mod TurnLaws
pub mod WorkLaws
pub mod ShareLaws
pub mod Crosses
pub mod RoundLaws
