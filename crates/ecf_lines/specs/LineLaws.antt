-- What holds of every line.
use Rattle.std.specs.Prelude.{◌≡◌, ℕ, List, Some, Ok}
use Rattle.ecf_lang.specs.declared.typed.Typed.{Typed}
use Rattle.ecf_lang.specs.declared.tx.Tx.{Tx}
use Rattle.ecf_lang.specs.Fits.{Fits}
use Rattle.ecf_lines.specs.Line.{line_of, IsNumbered}
use Rattle.ecf_lines.specs.Spelled.{SpellsTx}

-- the transaction that a line says fits the contract
abbrev pub LinesFit : Type 0
LinesFit = (typed : Typed) (line : List ℕ) (tx : Tx) → IsNumbered typed → line_of typed line ≡ Ok (Some tx) → Fits typed tx

-- the transaction that a line says is spelled by it
abbrev pub SaidIsSpelled : Type 0
SaidIsSpelled = (typed : Typed) (line : List ℕ) (tx : Tx) → line_of typed line ≡ Ok (Some tx) → SpellsTx typed line tx

-- a transaction that a line spells is the one that it says
abbrev pub SpelledIsSaid : Type 0
SpelledIsSaid = (typed : Typed) (line : List ℕ) (tx : Tx) → SpellsTx typed line tx → line_of typed line ≡ Ok (Some tx)
