pub mod SpelledLaws
pub mod ActorLaws
