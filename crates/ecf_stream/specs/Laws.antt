-- What several calls of a reader of streams give together, and what stands at the end.
use Rattle.std.specs.Prelude.{◌≡◌, ℕ, ◌+◌, Bool, true, false, List, [], ◌∷◌, ◌++◌, length, Option, Some, None, IfSome}
use Rattle.ecf_edge.specs.Source.{Gave}
use Rattle.ecf_lang.specs.declared.receipt.Stop.{Stop}
use Rattle.ecf_lang.specs.declared.tx.Tx.{Tx}
use Rattle.ecf_lang.specs.declared.typed.Typed.{Typed}
use Rattle.ecf_lines.specs.Stream.{Off, StreamSaid, stream_said}
use Rattle.ecf_stream.specs.declared.stream_reader.Stage.TheVariants as stage
use Rattle.ecf_stream.specs.declared.stream_reader.Reach.{Reach}
use Rattle.ecf_stream.specs.declared.stream_reader.Reach.TheVariants as reach
use Rattle.ecf_stream.specs.StreamState.{StreamState, first_state, reach_of, with_part, Reads}

-- one call and then another: what both read, dealt with and gave
abbrev pub CallsFollow : Type 0
CallsFollow = (typed : Typed) (a b d : StreamState) (l m n : Option (List ℕ)) (f g h : ℕ) (first second both : StreamSaid → StreamSaid) (some settled : Bool) →
    a.stage ≡ stage.Reading → b.stage ≡ stage.Reading → Reads typed a b l m f g first some → Reads typed b d m n g h second settled →
    ((rest : StreamSaid) → first (second rest) ≡ both rest) → Reads typed a d l n f h both settled

-- these transactions and offs, and then the rest
abbrev pub with_said : List Tx → List Off → StreamSaid → StreamSaid
with_said txs offs rest = record { txs = txs ++ rest.txs; offs = offs ++ rest.offs; stop = rest.stop }

-- the off that a part ends with, which has so many transactions before it
abbrev pub off_behind : ℕ → Option ℕ → List Off
off_behind after None = []
off_behind after (Some watch) = record { watch = watch; after = after } ∷ []

-- what the first call gives, as transactions and offs
abbrev pub FirstPart : Type 0
FirstPart = (typed : Typed) (a b : StreamState) (l m : Option (List ℕ)) (f g : ℕ) (part : List Tx) (off : Option ℕ) (settled : Bool) →
    Reads typed a b l m f g (with_part part a.txs off) settled → Reads typed a b l m f g (with_said part (off_behind (a.txs + length part) off)) settled

-- what some calls give and the next one
abbrev pub NextPart : Type 0
NextPart = (typed : Typed) (a b d : StreamState) (l m n : Option (List ℕ)) (f g h : ℕ) (txs part : List Tx) (offs : List Off) (off : Option ℕ) (some settled : Bool) →
    a.stage ≡ stage.Reading → b.stage ≡ stage.Reading → Reads typed a b l m f g (with_said txs offs) some →
    Reads typed b d m n g h (with_part part b.txs off) settled →
    Reads typed a d l n f h (with_said (txs ++ part) (offs ++ off_behind (b.txs + length part) off)) settled

-- This is what a stream says: all that the source had, where no read failed and it tells that; and where one failed, what it gave before.
abbrev pub IsSaid : Reach → Typed → Bool → ℕ → Option (List ℕ) → Option (List ℕ) → StreamSaid → Type 0
IsSaid reach.Failed typed controls have left left' said = (piece : List ℕ) × Gave left piece left' × (stream_said typed controls have piece true ≡ said)
IsSaid other typed controls have left left' said = IfSome left (λ bytes. stream_said typed controls have bytes false ≡ said)

-- that holds of the transactions and offs that a new reader has given at its end
abbrev pub EndIsSaid : Type 0
EndIsSaid = (typed : Typed) (controls : Bool) (have : ℕ) (s : StreamState) (left left' : Option (List ℕ)) (faults faults' : ℕ) (txs : List Tx) (offs : List Off) (stop : Option Stop) (settled : Bool) →
    Reads typed (first_state controls have) s left left' faults faults' (with_said txs offs) settled → s.stage ≡ stage.Ended stop →
    IsSaid (reach_of s) typed controls have left left' (record { txs = txs; offs = offs; stop = stop })
