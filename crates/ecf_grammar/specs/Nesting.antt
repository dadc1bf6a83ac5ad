-- How deep brackets are nested at a token.
use Rattle.std.specs.Prelude.{ℕ, ◌+◌, ◌-◌, ◌<◌, ◌≤◌, Bool, true, false, List, length, take, count_by}
use Rattle.ecf_lang.specs.declared.limits.TheConstants.{MAX_NESTING}
use Rattle.ecf_grammar.specs.declared.tokens.Sign.TheVariants as sign
use Rattle.ecf_grammar.specs.Lexemes.{Lexeme}
use Rattle.ecf_grammar.specs.Lexemes.Lexeme.{SignOf}

-- an opening bracket
abbrev pub is_opening : Lexeme → Bool
is_opening (SignOf sign.OpenBrace) = true
is_opening (SignOf sign.OpenParen) = true
is_opening (SignOf sign.OpenBracket) = true
is_opening _ = false

-- a closing bracket
abbrev pub is_closing : Lexeme → Bool
is_closing (SignOf sign.CloseBrace) = true
is_closing (SignOf sign.CloseParen) = true
is_closing (SignOf sign.CloseBracket) = true
is_closing _ = false

-- the nesting at a token: the opening brackets up to and with it, less the closing ones before it
abbrev pub nesting : List Lexeme → ℕ → ℕ
nesting lexemes token = count_by is_opening (take (token + 1) lexemes) - count_by is_closing (take token lexemes)

-- none of the first so many tokens is nested too deep
abbrev pub IsShallow : List Lexeme → ℕ → Type 0
IsShallow lexemes count = (token : ℕ) → token < count → token < length lexemes → nesting lexemes token ≤ MAX_NESTING
