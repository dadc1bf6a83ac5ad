-- How far a source is read.
use Rattle.std.specs.Prelude.{ℕ, ◌≤◌, List, length, drop}
use Rattle.ecf_grammar.specs.declared.tokens.Token.{Token}
use Rattle.ecf_grammar.specs.Reading.{ReadsUpTo}

-- the source up to a place reads as these tokens
pub record ReadsTo (source : List ℕ) (tokens : List Token) (at : ℕ) : Type 0 where
  pub reads : ReadsUpTo source tokens (drop at source)
  pub within : at ≤ length source
