-- What feeding the line at hand does to a reader of a stream.
use Rattle.std.proofs.Common.{◌≡◌, ℕ, zero, suc, ◌+◌, ◌-◌, ◌<◌, ◌≤◌, Bool, true, false, List, [], ◌∷◌, ◌++◌, length, take, drop, Option, Some, None, refl, sym, ap, subst, ◌∙◌, arith, length-append}
use Rattle.std.specs.Prelude.{slice_range}
use Rattle.std.proofs.lemmas.List.{length-take-le, length-drop}
use Rattle.ecf_lang.specs.declared.limits.TheConstants.{MAX_LINE_BYTES, MAX_STREAM_BYTES, MAX_TRANSACTIONS}
use Rattle.ecf_lang.specs.declared.receipt.StopCause.{StopCause}
use Rattle.ecf_lang.specs.declared.receipt.StopCause.TheVariants.{Long, Bytes}
use Rattle.ecf_stream.specs.declared.line_reader.Fed.{Fed}
use Rattle.ecf_stream.specs.declared.line_reader.Fed.TheVariants as fed
use Rattle.ecf_stream.specs.declared.stream_reader.Stage.{Stage}
use Rattle.ecf_stream.specs.declared.stream_reader.Stage.TheVariants as stage
use Rattle.ecf_stream.specs.declared.stream_reader.TheConstants.{READ_BYTES}
use Rattle.ecf_stream.specs.LineState.{LineState, opened_by, opened, part_of, has_lf, limit_passed_with, answer_by, state_by, answer_unless, state_unless, answer_to, state_after, IsWithin}
use Rattle.ecf_stream.specs.StreamState.{StreamState, IsSound, stop_at, state_fed}
use Rattle.ecf_stream.proofs.FeedLaws.{more_answered, line_answered, split_at_lf}

-- ---- the line at hand

opened_line : (b : Bool) (s : LineState) → (opened_by b s).most_line ≡ s.most_line
opened_line true s = refl
opened_line false s = refl

opened_bytes : (b : Bool) (s : LineState) → (opened_by b s).most_bytes ≡ s.most_bytes
opened_bytes true s = refl
opened_bytes false s = refl

pub opened_over : (b : Bool) (s : LineState) → (opened_by b s).over ≡ s.over
opened_over true s = refl
opened_over false s = refl

pub opened_open : (b : Bool) (s : LineState) → s.is_whole ≡ b → (opened_by b s).is_whole ≡ false
opened_open true s e = refl
opened_open false s e = e

by_line : (s : LineState) (piece : List ℕ) (limit : Option StopCause) → (state_by s piece limit).most_line ≡ s.most_line
by_line s piece None = refl
by_line s piece (Some Long) = refl
by_line s piece (Some other) = refl

by_bytes : (s : LineState) (piece : List ℕ) (limit : Option StopCause) → (state_by s piece limit).most_bytes ≡ s.most_bytes
by_bytes s piece None = refl
by_bytes s piece (Some Long) = refl
by_bytes s piece (Some other) = refl

unless_line : (o : Option Fed) (s : LineState) (piece : List ℕ) → (state_unless o s piece).most_line ≡ s.most_line
unless_line None s piece = by_line (opened s) piece (limit_passed_with (opened s) piece) ∙ opened_line s.is_whole s
unless_line (Some over) s piece = refl

unless_bytes : (o : Option Fed) (s : LineState) (piece : List ℕ) → (state_unless o s piece).most_bytes ≡ s.most_bytes
unless_bytes None s piece = by_bytes (opened s) piece (limit_passed_with (opened s) piece) ∙ opened_bytes s.is_whole s
unless_bytes (Some over) s piece = refl

-- where no limit was passed before, by the limit that is passed now
pub answer_is : (s : LineState) (piece : List ℕ) → s.over ≡ None → answer_to s piece ≡ answer_by (opened s) piece (limit_passed_with (opened s) piece)
answer_is s piece e = ap (λ o. answer_unless o s piece) e

pub state_is : (s : LineState) (piece : List ℕ) → s.over ≡ None → state_after s piece ≡ state_by (opened s) piece (limit_passed_with (opened s) piece)
state_is s piece e = ap (λ o. state_unless o s piece) e

-- where none is passed now
pub goes_on : (s : LineState) (piece : List ℕ) → s.over ≡ None → limit_passed_with (opened s) piece ≡ None → state_after s piece ≡ state_by (opened s) piece None
goes_on s piece e f = state_is s piece e ∙ ap (state_by (opened s) piece) f

still_none : (s : LineState) (piece : List ℕ) → s.over ≡ None → limit_passed_with (opened s) piece ≡ None → (state_after s piece).over ≡ None
still_none s piece e f = ap (λ (t : LineState). t.over) (goes_on s piece e f) ∙ opened_over s.is_whole s ∙ e

pub none_after_more : (s : LineState) (piece : List ℕ) → s.over ≡ None → answer_to s piece ≡ fed.More → (state_after s piece).over ≡ None
none_after_more s piece e f = let t = more_answered (opened s) piece (limit_passed_with (opened s) piece) (sym (answer_is s piece e) ∙ f) in still_none s piece e t.0

pub none_after_line : (s : LineState) (piece : List ℕ) (taken : ℕ) → s.over ≡ None → answer_to s piece ≡ fed.Line taken → (state_after s piece).over ≡ None
none_after_line s piece taken e f = let t = line_answered (opened s) piece (limit_passed_with (opened s) piece) taken (sym (answer_is s piece e) ∙ f) in still_none s piece e t.0

-- a line takes no more than the piece has
pub taken_within : (s : LineState) (piece : List ℕ) (taken : ℕ) → s.over ≡ None → answer_to s piece ≡ fed.Line taken → taken ≤ length piece
taken_within s piece taken e f =
    let t = line_answered (opened s) piece (limit_passed_with (opened s) piece) taken (sym (answer_is s piece e) ∙ f) in
    let whole : length piece ≡ length (part_of piece) + length (10 ∷ drop (length (part_of piece) + 1) piece) = ap length (split_at_lf piece t.1) ∙ length-append (part_of piece) (10 ∷ drop (length (part_of piece) + 1) piece) in
    let is : length (part_of piece) + 1 ≡ taken = t.2 in
    omega (arith, whole, is)

-- ---- the reader

-- a reader, part by part
abbrev pub state : Bool → LineState → List ℕ → ℕ → Stage → StreamState
state controls lines rest txs at = record { controls = controls; lines = lines; rest = rest; txs = txs; stage = at }

pub sound_fed : (controls : Bool) (lines new : LineState) (rest later : List ℕ) (txs : ℕ) (at then : Stage) → IsSound (state controls lines rest txs at) → IsWithin new → new ≡ state_after lines rest → length later ≤ READ_BYTES →
    (then ≡ stage.Reading → new.over ≡ None) → IsSound (state controls new later txs then)
sound_fed controls lines new rest later txs at then s within e few over = record {
  within = within;
  most_line = ap (λ (l : LineState). l.most_line) e ∙ unless_line lines.over lines rest ∙ s.most_line;
  most_bytes = ap (λ (l : LineState). l.most_bytes) e ∙ unless_bytes lines.over lines rest ∙ s.most_bytes;
  rest = few;
  txs = s.txs;
  over = over;
}

pub fed_more : (controls : Bool) (lines new : LineState) (rest none : List ℕ) (txs : ℕ) (at : Stage) → new ≡ state_after lines rest → none ≡ [] → state controls new none txs at ≡ state_fed (state controls lines rest txs at) fed.More
fed_more controls lines new rest none txs at e f = ap (λ l. state controls l none txs at) e ∙ ap (λ r. state controls (state_after lines rest) r txs at) f

pub fed_line : (controls : Bool) (lines new : LineState) (rest later : List ℕ) (txs taken : ℕ) (at : Stage) → new ≡ state_after lines rest → later ≡ drop taken rest → state controls new later txs at ≡ state_fed (state controls lines rest txs at) (fed.Line taken)
fed_line controls lines new rest later txs taken at e f = ap (λ l. state controls l later txs at) e ∙ ap (λ r. state controls (state_after lines rest) r txs at) f

pub fed_long : (controls : Bool) (lines new : LineState) (rest : List ℕ) (txs taken : ℕ) (at : Stage) → new ≡ state_after lines rest → state controls new rest txs (stage.Ended (Some (stop_at new Long))) ≡ state_fed (state controls lines rest txs at) (fed.Long taken)
fed_long controls lines new rest txs taken at e = ap (λ l. state controls l rest txs (stage.Ended (Some (stop_at l Long)))) e

pub fed_bytes : (controls : Bool) (lines new : LineState) (rest : List ℕ) (txs taken : ℕ) (at : Stage) → new ≡ state_after lines rest → state controls new rest txs (stage.Ended (Some (stop_at new Bytes))) ≡ state_fed (state controls lines rest txs at) (fed.Bytes taken)
fed_bytes controls lines new rest txs taken at e = ap (λ l. state controls l rest txs (stage.Ended (Some (stop_at l Bytes)))) e

-- ---- what is left of the buffer

pub length_range : (xs : List ℕ) (from to : ℕ) → from ≤ to → to ≤ length xs → length (slice_range xs from to) ≡ to - from
length_range xs from to h k = length-take-le (to - from) (drop from xs) (let count = length-drop from xs in omega (arith, count, h, k))

pub none_left : (xs : List ℕ) (to : ℕ) → slice_range xs to to ≡ []
none_left xs to = ap (λ n. take n (drop to xs)) (zero_is to) where
  zero_is : (n : ℕ) → n - n ≡ 0
  zero_is n = omega arith

drop_take : (n m : ℕ) (xs : List ℕ) → drop n (take m xs) ≡ take (m - n) (drop n xs)
drop_take zero m xs = ap (λ k. take k xs) (zero_off m) where
  zero_off : (m : ℕ) → m ≡ m - 0
  zero_off m = omega arith
drop_take (suc n) zero xs = ap (λ k. take k (drop (suc n) xs)) (zero_off n) where
  zero_off : (n : ℕ) → 0 ≡ 0 - suc n
  zero_off n = omega arith
drop_take (suc n) (suc m) [] = no_more (suc m - suc n) where
  no_more : (k : ℕ) → (let none : List ℕ = [] in none) ≡ take k []
  no_more zero = refl
  no_more (suc k) = refl
drop_take (suc n) (suc m) (x ∷ xs) = drop_take n m xs ∙ ap (λ k. take k (drop n xs)) (one_off m n) where
  one_off : (m n : ℕ) → m - n ≡ suc m - suc n
  one_off m n = omega arith

drop_twice : (n m : ℕ) (xs : List ℕ) → drop n (drop m xs) ≡ drop (m + n) xs
drop_twice n zero xs = ap (λ k. drop k xs) (none_more n) where
  none_more : (n : ℕ) → n ≡ 0 + n
  none_more n = omega arith
drop_twice n (suc m) [] = past n ∙ ap (λ k. drop k []) (one_more m n) where
  past : (n : ℕ) → drop n (let none : List ℕ = [] in none) ≡ drop (suc (m + n)) []
  past zero = refl
  past (suc n) = refl

  one_more : (m n : ℕ) → suc (m + n) ≡ suc m + n
  one_more m n = omega arith
drop_twice n (suc m) (x ∷ xs) = drop_twice n m xs ∙ ap (λ k. drop k (x ∷ xs)) (one_more m n) where
  one_more : (m n : ℕ) → suc (m + n) ≡ suc m + n
  one_more m n = omega arith

pub later_range : (xs : List ℕ) (from to taken : ℕ) → slice_range xs (from + taken) to ≡ drop taken (slice_range xs from to)
later_range xs from to taken =
    ap (λ n. take n (drop (from + taken) xs)) (less from to taken)
    ∙ ap (λ ys. take (to - from - taken) ys) (sym (drop_twice taken from xs))
    ∙ sym (drop_take taken (to - from) (drop from xs))
  where
    less : (from to taken : ℕ) → to - (from + taken) ≡ to - from - taken
    less from to taken = omega arith
