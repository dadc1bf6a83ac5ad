-- A text has one reading or one fault.
use Rattle.std.proofs.Common.{◌≡◌, ℕ, ◌+◌, ◌-◌, ◌^◌, ◌<◌, ◌≤◌, List, [], ◌∷◌, ◌++◌, length, take, refl, sym, ap, subst, ◌∙◌, arith, inl, inr, append_assoc, append-nil, length-append}
use Rattle.std.specs.Prelude.{slice_range}
use Rattle.std.specs.List.{AllByRecursion}
use Rattle.std.proofs.lemmas.List.{take_at, drop_at}
use Rattle.ecf_lang.specs.declared.limits.TheConstants.{MAX_TOKENS}
use Rattle.ecf_grammar.specs.declared.tokens.Kind.{Kind}
use Rattle.ecf_grammar.specs.declared.tokens.Kind.TheVariants as kind
use Rattle.ecf_grammar.specs.declared.tokens.Token.{Token}
use Rattle.ecf_grammar.specs.Spelling.{IsLexeme}
use Rattle.ecf_grammar.specs.Reading.{Piece, bytes_of, BeginsLongest, IsCut, token_at, tokens_from, IsInRange, ReadsUpTo, Fault, place, Refuses, IsFaulty, IsTokenOf, StandInOrder}
use Rattle.ecf_grammar.specs.Reading.Piece.{Blank, Comment, TokenText}
use Rattle.ecf_grammar.specs.Reading.Fault.{BadByte, WideNumber, TooManyTokens}
use Rattle.ecf_grammar.specs.Readings.{OneReading, ReadOrRefused, OneFault, TokensAreSpelled, TokensStandInOrder, ReadingGoesOn}
use Rattle.ecf_grammar.proofs.CutLaws.{one_longest, none_begins, cut_then, GoesOn, one_goes_on, tokens_from-append, end_of, end_of-cut, piece_len}

-- ---- a reading doesn't go on where a fault stands

abbrev InRange : Token → Type 0
InRange t = IsInRange t.kind

all_in_middle : (xs : List Token) (y : Token) (ys : List Token) → AllByRecursion InRange (xs ++ y ∷ ys) → IsInRange y.kind
all_in_middle [] y ys h = h.0
all_in_middle (x ∷ xs) y ys h = all_in_middle xs y ys h.1

-- pieces behind which a token of a kind stands, and more
record Reaches (ps : List Piece) (k : Kind) (tokens : List Token) : Type 0 where
  bytes : List ℕ
  more : List Piece
  is : tokens_from 0 (ps ++ TokenText k bytes ∷ more) ≡ tokens

reached_in_range : (ps : List Piece) (k : Kind) (tokens : List Token) → Reaches ps k tokens → AllByRecursion InRange tokens → IsInRange k
reached_in_range ps k tokens h all =
    let e = sym (tokens_from-append 0 ps (TokenText k h.bytes ∷ h.more)) ∙ h.is in
    all_in_middle (tokens_from 0 ps) _ _ (subst (AllByRecursion InRange) (sym e) all)

reached_more : (ps : List Piece) (k : Kind) (tokens : List Token) → Reaches ps k tokens → length (tokens_from 0 ps) < length tokens
reached_more ps k tokens h =
    let end = end_of 0 ps in
    let e = ap length (sym (tokens_from-append 0 ps (TokenText k h.bytes ∷ h.more)) ∙ h.is) in
    omega (arith, e, length-append (tokens_from 0 ps) (tokens_from end (TokenText k h.bytes ∷ h.more)))

reaches : (ps : List Piece) (p : Piece) (more : List Piece) (k : Kind) (bytes : List ℕ) (tokens : List Token) → p ≡ TokenText k bytes → tokens_from 0 (ps ++ p ∷ more) ≡ tokens → Reaches ps k tokens
reaches ps p more k bytes tokens e is = record { bytes = bytes; more = more; is = subst (λ q. tokens_from 0 (ps ++ q ∷ more) ≡ tokens) e is }

no_more : (fault : Fault) (ps : List Piece) (text : List ℕ) (p : Piece) (behind : List ℕ) (more : List Piece) (tokens : List Token)
    → Refuses fault (length (tokens_from 0 ps)) text → BeginsLongest text p behind → tokens_from 0 (ps ++ p ∷ more) ≡ tokens
    → AllByRecursion InRange tokens → length tokens ≤ MAX_TOKENS → ⊥
no_more (BadByte at) ps text p behind more tokens r b is all few = r.1 p behind b.begins
no_more (WideNumber at) ps text p behind more tokens r b is all few =
    let token = r.3 in
    let same = one_longest text p (TokenText (kind.Number r.1) token.0) behind token.1 b token.2 in
    let small : r.1 < 2 ^ 128 = reached_in_range ps (kind.Number r.1) tokens (reaches ps p more (kind.Number r.1) token.0 tokens same.0 is) all in
    omega (arith, small, r.2)
no_more (TooManyTokens at) ps text p behind more tokens r b is all few =
    let token = r.2 in
    let same = one_longest text p (TokenText r.1 token.0) behind token.1 b token.2 in
    omega (arith, reached_more ps r.1 tokens (reaches ps p more r.1 token.0 tokens same.0 is), r.0)

-- so it stops there
stops : (fault : Fault) (ps : List Piece) (text : List ℕ) (more : List Piece) (rest : List ℕ) (tokens : List Token)
    → Refuses fault (length (tokens_from 0 ps)) text → IsCut text more rest → tokens_from 0 (ps ++ more) ≡ tokens
    → AllByRecursion InRange tokens → length tokens ≤ MAX_TOKENS → (text ≡ rest) × (tokens_from 0 ps ≡ tokens)
stops fault ps text [] rest tokens r cut is all few = (cut, ap (tokens_from 0) (sym (append-nil ps)) ∙ is)
stops fault ps text (p ∷ more) rest tokens r cut is all few = absurd (no_more fault ps text p cut.0 more tokens r cut.1 is all few)

refuses_some : (fault : Fault) (count : ℕ) → Refuses fault count [] → ⊥
refuses_some (BadByte at) count r = r.0 refl
refuses_some (WideNumber at) count r = none_begins _ _ r.3.2.begins
refuses_some (TooManyTokens at) count r = none_begins _ _ r.2.2.begins

-- ---- one reading

nothing_behind : (more : List Piece) (rest : List ℕ) → IsCut [] more rest → (more ≡ []) × ([] ≡ rest)
nothing_behind [] rest h = (refl, h)
nothing_behind (p ∷ more) rest h = absurd (none_begins p h.0 h.1.begins)

same_tokens : (ps qs : List Piece) (rest : List ℕ) → GoesOn ps [] qs rest → tokens_from 0 ps ≡ tokens_from 0 qs
same_tokens ps qs rest on =
    let none = nothing_behind on.more rest on.cut in
    ap (tokens_from 0) (sym (on.is ∙ ap (λ t. ps ++ t) none.0 ∙ append-nil ps))

pub one_reading : OneReading
one_reading source tokens others h g =
    elim (one_goes_on source h.pieces g.pieces [] [] h.cut g.cut) [
      | inl on ↦ sym h.all ∙ same_tokens h.pieces g.pieces [] on ∙ g.all
      | inr on ↦ sym h.all ∙ sym (same_tokens g.pieces h.pieces [] on) ∙ g.all
    ]

-- ---- no fault beside it

-- what is refused behind a faulty text's own pieces
refused_at : (source : List ℕ) (fault : Fault) (f : IsFaulty source fault) → Refuses fault (length (tokens_from 0 f.reads.pieces)) f.rest
refused_at source fault f = subst (λ t. Refuses fault (length t) f.rest) (sym f.reads.all) f.refused

-- a reading that goes on behind a faulty text's pieces stops there
reading_stops : (source : List ℕ) (fault : Fault) (f : IsFaulty source fault) (tokens : List Token) (rest : List ℕ) (h : ReadsUpTo source tokens rest)
    → GoesOn f.reads.pieces f.rest h.pieces rest → (f.rest ≡ rest) × (f.tokens ≡ tokens)
reading_stops source fault f tokens rest h on =
    let at = stops fault f.reads.pieces f.rest on.more rest tokens (refused_at source fault f) on.cut (ap (tokens_from 0) (sym on.is) ∙ h.all) h.in_range h.few in
    (at.0, sym f.reads.all ∙ at.1)

empty_is_not_refused : (source : List ℕ) (fault : Fault) (f : IsFaulty source fault) → f.rest ≡ [] → ⊥
empty_is_not_refused source fault f e = refuses_some fault (length f.tokens) (subst (λ t. Refuses fault (length f.tokens) t) e f.refused)

pub read_or_refused : ReadOrRefused
read_or_refused source tokens fault h f =
    elim (one_goes_on source f.reads.pieces h.pieces f.rest [] f.reads.cut h.cut) [
      | inl on ↦ empty_is_not_refused source fault f (reading_stops source fault f tokens [] h on).0
      | inr on ↦ empty_is_not_refused source fault f (sym (nothing_behind on.more f.rest on.cut).1)
    ]

-- ---- one fault

same_fault : (fault other : Fault) (count : ℕ) (text : List ℕ) → place fault ≡ place other → Refuses fault count text → Refuses other count text → fault ≡ other
same_fault (BadByte a) (BadByte b) count text e f g = ap (λ n. BadByte n) e
same_fault (BadByte a) (WideNumber b) count text e f g = absurd (f.1 _ _ g.3.2.begins)
same_fault (BadByte a) (TooManyTokens b) count text e f g = absurd (f.1 _ _ g.2.2.begins)
same_fault (WideNumber a) (BadByte b) count text e f g = absurd (g.1 _ _ f.3.2.begins)
same_fault (WideNumber a) (WideNumber b) count text e f g = ap (λ n. WideNumber n) e
same_fault (WideNumber a) (TooManyTokens b) count text e f g = absurd (omega (arith, f.0, g.0))
same_fault (TooManyTokens a) (BadByte b) count text e f g = absurd (g.1 _ _ f.2.2.begins)
same_fault (TooManyTokens a) (WideNumber b) count text e f g = absurd (omega (arith, f.0, g.0))
same_fault (TooManyTokens a) (TooManyTokens b) count text e f g = ap (λ n. TooManyTokens n) e

fault_at_stop : (source : List ℕ) (fault other : Fault) (f : IsFaulty source fault) (g : IsFaulty source other) → (f.rest ≡ g.rest) × (f.tokens ≡ g.tokens) → fault ≡ other
fault_at_stop source fault other f g same =
    let rests = ap length same.0 in
    let refused : Refuses fault (length g.tokens) g.rest = subst (λ t. Refuses fault (length g.tokens) t) same.0 (subst (λ t. Refuses fault (length t) f.rest) same.1 f.refused) in
    same_fault fault other (length g.tokens) g.rest (omega (arith, f.at, g.at, rests)) refused g.refused

pub one_fault : OneFault
one_fault source fault other f g =
    elim (one_goes_on source f.reads.pieces g.reads.pieces f.rest g.rest f.reads.cut g.reads.cut) [
      | inl on ↦ fault_at_stop source fault other f g (reading_stops source fault f g.tokens g.rest g.reads on)
      | inr on ↦ sym (fault_at_stop source other fault g f (reading_stops source other g f.tokens f.rest f.reads on))
    ]

-- ---- where the tokens stand

spelled_at : (front bytes behind : List ℕ) (k : Kind) (at : ℕ) → at ≡ length front → BeginsLongest (bytes ++ behind) (TokenText k bytes) behind
    → IsTokenOf (front ++ (bytes ++ behind)) (record { kind = k; start = at; end = at + length bytes })
spelled_at front bytes behind k at e b =
    let some = piece_len (TokenText k bytes) b.begins.spelled in
    let text : slice_range (front ++ (bytes ++ behind)) at (at + length bytes) ≡ bytes =
    ap (λ t. take (at + length bytes - at) t) (drop_at front (bytes ++ behind) at (sym e)) ∙ take_at bytes behind (at + length bytes - at) (omega arith) in
    record {
      some = omega arith;
      within = omega (arith, length-append front (bytes ++ behind), length-append bytes behind);
      spelled = subst (λ t. IsLexeme k t) (sym text) b.begins.spelled;
    }

first_spelled : (front : List ℕ) (p : Piece) (text behind : List ℕ) (at : ℕ) → at ≡ length front → BeginsLongest text p behind → AllByRecursion (IsTokenOf (front ++ text)) (token_at at p)
first_spelled front (Blank b) text behind at e h = tt
first_spelled front (Comment r) text behind at e h = tt
first_spelled front (TokenText k bytes) text behind at e h =
    let whole = h.begins.whole in (
      subst (λ t. IsTokenOf (front ++ t) (record { kind = k; start = at; end = at + length bytes })) (sym whole)
          (spelled_at front bytes behind k at e (subst (λ t. BeginsLongest t (TokenText k bytes) behind) whole h)),
      tt,
    )

all_append : (P : Token → Type 0) (xs ys : List Token) → AllByRecursion P xs → AllByRecursion P ys → AllByRecursion P (xs ++ ys)
all_append P [] ys h g = g
all_append P (x ∷ xs) ys h g = (h.0, all_append P xs ys h.1 g)

spelled_from : (front text : List ℕ) (at : ℕ) (ps : List Piece) (rest : List ℕ) → at ≡ length front → IsCut text ps rest → AllByRecursion (IsTokenOf (front ++ text)) (tokens_from at ps)
spelled_from front text at [] rest e h = tt
spelled_from front text at (p ∷ ps) rest e h =
    let whole : (front ++ bytes_of p) ++ h.0 ≡ front ++ text = append_assoc front (bytes_of p) h.0 ∙ ap (λ t. front ++ t) (sym h.1.begins.whole) in
    let further : at + length (bytes_of p) ≡ length (front ++ bytes_of p) = omega (arith, e, length-append front (bytes_of p)) in
    let others = spelled_from (front ++ bytes_of p) h.0 (at + length (bytes_of p)) ps rest further h.2 in
    all_append (IsTokenOf (front ++ text)) (token_at at p) (tokens_from (at + length (bytes_of p)) ps)
    (first_spelled front p text h.0 at e h.1)
    (subst (λ t. AllByRecursion (IsTokenOf t) (tokens_from (at + length (bytes_of p)) ps)) whole others)

pub tokens_are_spelled : TokensAreSpelled
tokens_are_spelled source tokens h = subst (AllByRecursion (IsTokenOf source)) h.all (spelled_from [] source 0 h.pieces [] refl h.cut)

in_order_from : (from at : ℕ) (ps : List Piece) → from ≤ at → StandInOrder from (tokens_from at ps)
in_order_from from at [] le = tt
in_order_from from at (Blank b ∷ ps) le = in_order_from from (at + 1) ps (omega arith)
in_order_from from at (Comment r ∷ ps) le = in_order_from from (at + length (bytes_of (Comment r))) ps (omega arith)
in_order_from from at (TokenText k bytes ∷ ps) le = (le, in_order_from (at + length bytes) (at + length bytes) ps (omega arith))

pub tokens_stand_in_order : TokensStandInOrder
tokens_stand_in_order source tokens h = subst (StandInOrder 0) h.all (in_order_from 0 0 h.pieces (omega arith))

-- ---- a reading goes on

pub reading_goes_on : ReadingGoesOn
reading_goes_on source text behind tokens more at piece h place longest is in_range few =
    let pieces = h.pieces in
    let end : end_of 0 pieces ≡ at = omega (arith, end_of-cut 0 source pieces text h.cut, place) in
    let last : IsCut text (piece ∷ []) behind = (behind, longest, refl) in
    let same : tokens_from 0 (pieces ++ piece ∷ []) ≡ tokens ++ more =
    tokens_from-append 0 pieces (piece ∷ [])
    ∙ ap (λ t. tokens_from 0 pieces ++ t) (append-nil (token_at (end_of 0 pieces) piece))
    ∙ ap (λ n. tokens_from 0 pieces ++ token_at n piece) end
    ∙ ap (λ t. tokens_from 0 pieces ++ t) is
    ∙ ap (λ t. t ++ more) h.all in
    record {
      pieces = pieces ++ piece ∷ [];
      cut = cut_then source pieces text (piece ∷ []) behind h.cut last;
      all = same;
      in_range = all_append InRange tokens more h.in_range in_range;
      few = few;
    }
