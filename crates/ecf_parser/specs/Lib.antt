pub mod Parsers
pub mod Descent
pub mod CursorView
pub mod Parses
pub mod FirstDeep
pub mod SyntaxFault
