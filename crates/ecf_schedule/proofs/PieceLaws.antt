-- How far a reader has come with a piece, and with a source.
use Rattle.std.proofs.Common.{◌≡◌, ℕ, ◌+◌, Bool, List, [], ◌++◌, length, Option, refl, ap, ◌∙◌, append_assoc}
use Rattle.std.proofs.Math.Seq.{drop-length}
use Rattle.ecf_edge.specs.Source.{Gave}
use Rattle.ecf_edge.specs.Chains.{Gave-append, Gave-nil}
use Rattle.ecf_events.specs.Stream.{schedule_said}
use Rattle.ecf_schedule.specs.Reading.{EventState, GoesOn, IsReading, bytes_taken, first_state, to_say}

-- of a piece this rest is left
pub record Partly (old new : EventState) (piece rest : List ℕ) : Type 0 where
  pub reading : IsReading new
  pub taken : bytes_taken new + length rest ≡ bytes_taken old + length piece
  pub says : (more : List ℕ) (failed : Bool) → to_say old (piece ++ more) failed ≡ to_say new (rest ++ more) failed

pub begun : (s : EventState) (piece : List ℕ) → IsReading s → Partly s s piece piece
begun s piece r = record { reading = r; taken = refl; says = λ more failed. refl }

-- ---- a source

-- a reader has taken all that a source gave
pub record HasRead (left left' : Option (List ℕ)) (s : EventState) : Type 0 where
  pub piece : List ℕ
  pub gave : Gave left piece left'
  pub reading : IsReading s
  pub says : (more : List ℕ) (failed : Bool) → schedule_said (piece ++ more) failed ≡ to_say s more failed

pub none_read : (left : Option (List ℕ)) → IsReading first_state → HasRead left left first_state
none_read left r = record { piece = []; gave = Gave-nil left; reading = r; says = λ more failed. refl }

pub more_read : (left left' left'' : Option (List ℕ)) (s new : EventState) (piece : List ℕ) → HasRead left left' s → Gave left' piece left'' → GoesOn s new piece (length piece) → HasRead left left'' new
more_read left left' left'' s new piece h gave g = record {
  piece = h.piece ++ piece;
  gave = Gave-append left left' left'' h.piece piece h.gave gave;
  reading = g.reading;
  says = λ more failed.
      ap (λ bytes. schedule_said bytes failed) (append_assoc h.piece piece more)
      ∙ h.says (piece ++ more) failed
      ∙ g.says more failed
      ∙ ap (λ bytes. to_say new (bytes ++ more) failed) (drop-length piece);
}
