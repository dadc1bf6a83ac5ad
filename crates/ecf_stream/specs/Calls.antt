-- Calls that are read one after the other.
use Rattle.std.specs.Prelude.{ℕ, List, ◌++◌, Ok}
use Rattle.ecf_lang.specs.declared.tx.TxCall.{TxCall}
use Rattle.ecf_lang.specs.declared.typed.Typed.{Typed}
use Rattle.ecf_lines.specs.Line.{Reading, ◌>>=◌, further_calls_of}

-- these calls, and behind them the further calls that words spell
abbrev pub calls_behind : Typed → List TxCall → List (List (List ℕ)) → Reading (List TxCall)
calls_behind typed calls further = further_calls_of typed further >>= (λ more. Ok (calls ++ more))
