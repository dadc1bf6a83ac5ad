-- What a function that reads ensures.
use Rattle.std.specs.Prelude.{◌≡◌, ◌≢◌, Result, Ok, Err}
use Rattle.ecf_grammar.specs.Lexemes.{NumberedLexemes}
use Rattle.ecf_parser.specs.declared.cursor.ParseFault.{ParseFault}
use Rattle.ecf_parser.specs.declared.cursor.ParseFault.TheVariants.{NoMemory}
use Rattle.ecf_parser.specs.Parsers.{Parse}

-- the reader's outcome is what was answered and what is left, unless memory ran out
abbrev pub Parses : {A : Type 0} → Parse A → Result A ParseFault → NumberedLexemes → Type 0
Parses outcome (Ok x) new = outcome ≡ Ok (x, new)
Parses outcome (Err e) new = e ≢ NoMemory → outcome ≡ Err new
