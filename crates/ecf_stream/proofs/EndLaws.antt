-- What parts give together, and that what a reader has given at the end is what the stream says.
use Rattle.std.proofs.Common.{◌≡◌, ℕ, ◌+◌, Bool, true, false, List, [], ◌∷◌, ◌++◌, length, Option, Some, None, refl, sym, ap, subst, ◌∙◌, append_assoc, append-nil}
use Rattle.std.specs.Prelude.{IfSome}
use Rattle.ecf_edge.specs.Source.{prepended, Gave, IsAtEnd}
use Rattle.ecf_lang.specs.declared.receipt.Stop.{Stop}
use Rattle.ecf_lang.specs.declared.tx.Tx.{Tx}
use Rattle.ecf_lang.specs.declared.typed.Typed.{Typed}
use Rattle.ecf_lines.specs.Stream.{Off, StreamSaid, stream_said}
use Rattle.ecf_stream.specs.declared.stream_reader.Stage.TheVariants as stage
use Rattle.ecf_stream.specs.declared.stream_reader.Reach.{Reach}
use Rattle.ecf_stream.specs.declared.stream_reader.Reach.TheVariants as reach
use Rattle.ecf_stream.specs.StreamState.{StreamState, first_state, reach_of, given_at, given_yet, left_at, MayFollow, with_part, Reads}
use Rattle.ecf_stream.specs.Laws.{CallsFollow, with_said, off_behind, FirstPart, NextPart, IsSaid, EndIsSaid}
use Rattle.ecf_stream.proofs.GivenLaws.{chain}

pub calls_follow : CallsFollow
calls_follow typed a b d l m n f g h first second both some settled ea eb r s k = chain typed a b d l m n f g h first second both some settled ea r eb s k

-- what was said
abbrev said : List Tx → List Off → Option Stop → StreamSaid
said txs offs stop = record { txs = txs; offs = offs; stop = stop }

pub first_part : FirstPart
first_part typed a b l m f g part None settled r = r
first_part typed a b l m f g part (Some watch) settled r = r

-- a part behind what was given
joined : (txs part : List Tx) (offs : List Off) (before : ℕ) (off : Option ℕ) (rest : StreamSaid) →
    with_said txs offs (with_part part before off rest) ≡ with_said (txs ++ part) (offs ++ off_behind (before + length part) off) rest
joined txs part offs before None rest =
    ap (λ ts. said ts (offs ++ rest.offs) rest.stop) (sym (append_assoc txs part rest.txs))
    ∙ ap (λ os. said ((txs ++ part) ++ rest.txs) (os ++ rest.offs) rest.stop) (sym (append-nil offs))
joined txs part offs before (Some watch) rest =
    let off : List Off = record { watch = watch; after = before + length part } ∷ [] in
    ap (λ ts. said ts (offs ++ (off ++ rest.offs)) rest.stop) (sym (append_assoc txs part rest.txs))
    ∙ ap (λ os. said ((txs ++ part) ++ rest.txs) os rest.stop) (sym (append_assoc offs off rest.offs))

pub next_part : NextPart
next_part typed a b d l m n f g h txs part offs off some settled ea eb r s =
    calls_follow typed a b d l m n f g h (with_said txs offs) (with_part part b.txs off) (with_said (txs ++ part) (offs ++ off_behind (b.txs + length part) off)) some settled ea eb r s
    (λ rest. joined txs part offs b.txs off rest)

-- a source that tells what is left
told_whole : (bytes piece : List ℕ) (left' : Option (List ℕ)) → Gave (Some bytes) piece left' → (more : List ℕ) × (left' ≡ Some more) × (bytes ≡ piece ++ more)
told_whole bytes piece None e = let no : ⊥ = cc in absurd no
told_whole bytes piece (Some more) e = (more, refl, same bytes (piece ++ more) e) where
  same : (a b : List ℕ) → Some a ≡ Some b → a ≡ b
  same a b e = cc

module _ (typed : Typed) (controls : Bool) (have : ℕ) (s : StreamState) (left left' : Option (List ℕ)) (faults faults' : ℕ) (txs : List Tx) (offs : List Off) (stop : Option Stop) (settled : Bool) (r : Reads typed (first_state controls have) s left left' faults faults' (with_said txs offs) settled) (ended : s.stage ≡ stage.Ended stop) where
  -- what the bytes say, from what may follow the piece
  whole : (more : List ℕ) (failed : Bool) → MayFollow r.far more failed → stream_said typed controls have (r.piece ++ more) failed ≡ said txs offs stop
  whole more failed follow =
      r.said more failed follow
      ∙ ap (with_said txs offs) (ap (λ at. given_at at typed s more failed) ended)
      ∙ ap (λ ts. said ts (offs ++ []) stop) (append-nil txs)
      ∙ ap (λ os. said txs os stop) (append-nil offs)

  told : (far : Reach) → r.far ≡ far → left_at far left' → ((more : List ℕ) → left' ≡ Some more → MayFollow far more false) → (l : Option (List ℕ)) → l ≡ left → IfSome l (λ bytes. stream_said typed controls have bytes false ≡ said txs offs stop)
  told far e end follow None is = tt
  told far e end follow (Some bytes) is =
      let t = told_whole bytes r.piece left' (is ∙ r.gave) in
      ap (λ all. stream_said typed controls have all false) t.2
      ∙ whole t.0 false (subst (λ far. MayFollow far t.0 false) (sym e) (follow t.0 t.1))

  at_end : (l : Option (List ℕ)) (more : List ℕ) → IsAtEnd l → l ≡ Some more → more ≡ []
  at_end None more h e = let no : ⊥ = cc in absurd no
  at_end (Some bytes) more h e = sym (same bytes more e) ∙ h where
    same : (a b : List ℕ) → Some a ≡ Some b → a ≡ b
    same a b e = cc

  by : (far : Reach) → r.far ≡ far → left_at far left' → IsSaid far typed controls have left left' (said txs offs stop)
  by reach.Failed e end = (r.piece, r.gave, ap (λ bytes. stream_said typed controls have bytes true) (sym (append-nil r.piece)) ∙ whole [] true (subst (λ far. MayFollow far [] true) (sym e) (refl, refl)))
  by reach.Open e end = told reach.Open e end (λ more is. tt) left refl
  by reach.AtEnd e end = told reach.AtEnd e end (λ more is. (at_end left' more end is, refl)) left refl

  end_said : IsSaid (reach_of s) typed controls have left left' (said txs offs stop)
  end_said = by (reach_of s) (r.reached refl) (subst (λ far. left_at far left') (r.reached refl) r.end)

pub end_is_said : EndIsSaid
end_is_said typed controls have s left left' faults faults' txs offs stop settled r ended = end_said typed controls have s left left' faults faults' txs offs stop settled r ended
