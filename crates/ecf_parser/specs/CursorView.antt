-- What a cursor shows, and what it keeps.
use Rattle.std.specs.Prelude.{◌+◌, ◌^◌, ◌<◌, length}
use Rattle.std.specs.List.{AllByRecursion}
use Rattle.ecf_grammar.specs.Lexemes.{NumberedLexemes, with_numbers, lexemes_of}
use Rattle.ecf_grammar.specs.Reading.{IsTokenOf}
use Rattle.ecf_parser.specs.declared.cursor.Cursor.TheInside.{Inside}

-- the lexemes from the cursor on
abbrev pub lexemes_ahead : Inside → NumberedLexemes
lexemes_ahead c = with_numbers c.at (lexemes_of c.source.now c.tokens.now)

-- the tokens lie in the source, and their numbers fit
abbrev pub IsInside : Inside → Type 0
IsInside c = (c.at + length c.tokens.now < 2 ^ 32) × AllByRecursion (IsTokenOf c.source.now) c.tokens.now
