-- How far a text was written, by the count of its bytes.
use Rattle.std.proofs.Common.{ℕ, ◌≡◌, ◌+◌, ◌-◌, List, ◌++◌, length, take, drop, sym}
use Rattle.std.proofs.lemmas.List.{take_rest}
use Rattle.std.proofs.Math.Seq.{take-add}

-- so many bytes of a text, and then so many of the rest of it
pub take-further : (n m : ℕ) (text : List ℕ) → take n text ++ take m (take (length text - n) (drop n text)) ≡ take (n + m) text
take-further n m text = rw (take_rest text n) (sym (take-add n m text))
