pub mod Spelling
pub mod Spellings
pub mod Reading
pub mod Readings
pub mod Lexemes
pub mod Nesting
pub mod Spells
