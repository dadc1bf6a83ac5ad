-- The first token that is nested too deep.
use Rattle.std.specs.Prelude.{ℕ, ◌<◌, List, length}
use Rattle.ecf_grammar.specs.Lexemes.{Lexeme}
use Rattle.ecf_lang.specs.declared.limits.TheConstants.{MAX_NESTING}
use Rattle.ecf_grammar.specs.Nesting.{nesting, IsShallow}

-- the token is nested too deep, and none before it is
pub record IsFirstDeep (lexemes : List Lexeme) (token : ℕ) : Type 0 where
  pub within : token < length lexemes
  pub deep : MAX_NESTING < nesting lexemes token
  pub shallow : IsShallow lexemes token

-- no token is nested too deep
abbrev pub IsAllShallow : List Lexeme → Type 0
IsAllShallow lexemes = IsShallow lexemes (length lexemes)
