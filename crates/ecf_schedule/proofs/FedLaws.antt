-- What feeding a piece does to the line at hand, as far as a reader of a schedule asks.
use Rattle.std.proofs.Common.{◌≡◌, ℕ, ◌+◌, ◌<◌, ◌≤◌, Bool, true, false, List, ◌++◌, length, Option, Some, None, refl, sym, ap, subst, ◌∙◌, arith, length-append}
use Rattle.std.specs.Prelude.{All, if◌then◌else◌}
use Rattle.std.specs.List.{position_or_len}
use Rattle.std.proofs.lemmas.List.{length-take}
use Rattle.std.proofs.lemmas.List.Elements.{All-nil}
use Rattle.ecf_lang.specs.declared.receipt.StopCause.{StopCause}
use Rattle.ecf_lang.specs.declared.receipt.StopCause.TheVariants.{Long}
use Rattle.ecf_lines.specs.Stream.{is_lf, bytes_of_line}
use Rattle.ecf_stream.specs.declared.line_reader.Fed.{Fed}
use Rattle.ecf_stream.specs.declared.line_reader.Fed.TheVariants as fed
use Rattle.ecf_stream.specs.LineState.{LineState, opened_by, opened, part_of, has_lf, limit_passed_with, answer_by, state_by, answer_unless, state_unless, answer_to, state_after}

-- how many bytes were taken of the line at hand and those before it
abbrev pub count_of : LineState → ℕ
count_of s = s.bytes + bytes_of_line s.is_whole s.line

-- a piece was taken so far, and the limits are the same
pub record IsFed (old new : LineState) (count : ℕ) (whole : Bool) : Type 0 where
  pub over : new.over ≡ old.over
  pub most_line : new.most_line ≡ old.most_line
  pub most_bytes : new.most_bytes ≡ old.most_bytes
  pub lines : new.lines ≡ (opened old).lines
  pub is_whole : new.is_whole ≡ whole
  pub taken : count_of new ≡ count_of old + count

-- what an answer says
abbrev pub Tells : Fed → LineState → LineState → List ℕ → Type 0
Tells fed.More old new piece = IsFed old new (length piece) false
Tells (fed.Line taken) old new piece = IsFed old new taken true × (1 ≤ taken) × (taken ≤ length piece)
Tells (fed.Long taken) old new piece = new.lines ≡ (opened old).lines
Tells (fed.Bytes taken) old new piece = new.lines ≡ (opened old).lines

-- ---- the line to which the next byte comes

pub opened_line : (b : Bool) (s : LineState) → (opened_by b s).most_line ≡ s.most_line
opened_line true s = refl
opened_line false s = refl

pub opened_bytes : (b : Bool) (s : LineState) → (opened_by b s).most_bytes ≡ s.most_bytes
opened_bytes true s = refl
opened_bytes false s = refl

opened_over : (b : Bool) (s : LineState) → (opened_by b s).over ≡ s.over
opened_over true s = refl
opened_over false s = refl

opened_count : (b : Bool) (s : LineState) → s.is_whole ≡ b → (opened_by b s).bytes + length (opened_by b s).line ≡ count_of s
opened_count true s e = omega arith ∙ ap (λ w. s.bytes + bytes_of_line w s.line) (sym e)
opened_count false s e = omega arith ∙ ap (λ w. s.bytes + bytes_of_line w s.line) (sym e)

pub opened_plain : (b : Bool) (s : LineState) → All (λ byte. is_lf byte ≡ false) s.line → All (λ byte. is_lf byte ≡ false) (opened_by b s).line
opened_plain true s h = All-nil (λ byte. is_lf byte ≡ false)
opened_plain false s h = h

pub opened_within : (b : Bool) (s : LineState) → s.is_whole ≡ b → s.bytes + bytes_of_line s.is_whole s.line ≤ s.most_bytes → (opened_by b s).bytes + (length (opened_by b s).line + 0) ≤ s.most_bytes
opened_within b s e h = let same = opened_count b s e in omega (arith, same, h)

pub opened_short : (b : Bool) (s : LineState) → length s.line ≤ s.most_line → length (opened_by b s).line ≤ s.most_line
opened_short true s h = omega arith
opened_short false s h = h

pub opened_next : (b : Bool) (s : LineState) → (opened_by b s).lines ≡ s.lines + (if b then 1 else 0)
opened_next true s = refl
opened_next false s = omega arith

-- ---- each answer

part_within : (piece : List ℕ) → length (part_of piece) ≤ length piece
part_within piece = let n = length-take (position_or_len is_lf piece) piece in omega (arith, n)

by_lf : (old : LineState) (piece : List ℕ) (b : Bool) → has_lf piece ≡ b →
    Tells (if b then fed.Line (length (part_of piece) + 1) else fed.More) old (record (opened old) { line = (opened old).line ++ part_of piece; is_whole = b }) piece
by_lf old piece true e =
    let part = part_of piece in
    let less : length part < length piece = grind arith in
    let count = opened_count old.is_whole old refl in
    let joined = length-append (opened old).line part in (
      record {
        over = opened_over old.is_whole old;
        most_line = opened_line old.is_whole old;
        most_bytes = opened_bytes old.is_whole old;
        lines = refl;
        is_whole = refl;
        taken = omega (arith, count, joined);
      },
      omega arith,
      omega (arith, less),
    )
by_lf old piece false e =
    let part = part_of piece in
    let all : length piece ≤ length part = grind arith in
    let within = part_within piece in
    let count = opened_count old.is_whole old refl in
    let joined = length-append (opened old).line part in
    record {
      over = opened_over old.is_whole old;
      most_line = opened_line old.is_whole old;
      most_bytes = opened_bytes old.is_whole old;
      lines = refl;
      is_whole = refl;
      taken = omega (arith, count, joined, all, within);
    }

by_limit : (old : LineState) (piece : List ℕ) (limit : Option StopCause) → Tells (answer_by (opened old) piece limit) old (state_by (opened old) piece limit) piece
by_limit old piece None = by_lf old piece (has_lf piece) refl
by_limit old piece (Some Long) = refl
by_limit old piece (Some other) = refl

unless_over : (o : Option Fed) (old : LineState) (piece : List ℕ) → o ≡ None → Tells (answer_unless o old piece) old (state_unless o old piece) piece
unless_over None old piece e = by_limit old piece (limit_passed_with (opened old) piece)
unless_over (Some over) old piece e = let no : ⊥ = cc in absurd no

pub tells : (old new : LineState) (piece : List ℕ) (answer : Fed) → old.over ≡ None → answer ≡ answer_to old piece → new ≡ state_after old piece → Tells answer old new piece
tells old new piece answer none e f =
    subst (λ (a : Fed). Tells a old new piece) (sym e) (subst (λ (t : LineState). Tells (answer_to old piece) old t piece) (sym f) (unless_over old.over old piece none))
