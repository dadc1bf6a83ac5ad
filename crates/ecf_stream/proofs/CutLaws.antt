-- What is to come of a reader of lines doesn't change, however it is fed.
use Rattle.std.proofs.Common.{◌≡◌, ℕ, ◌+◌, Bool, true, false, List, [], ◌∷◌, ◌++◌, length, drop, Option, Some, None, refl, sym, ap, subst, ◌∙◌, append_assoc}
use Rattle.std.proofs.lemmas.List.Elements.{All-append}
use Rattle.std.proofs.lemmas.List.Splits.{slice_split_none, slice_split_at}
use Rattle.ecf_lang.specs.declared.receipt.StopCause.{StopCause}
use Rattle.ecf_lang.specs.declared.receipt.StopCause.TheVariants.{Long, Bytes}
use Rattle.ecf_lines.specs.Stream.{is_lf, bytes_of_line, lines_of, limit_passed}
use Rattle.ecf_stream.specs.declared.line_reader.Fed.{Fed}
use Rattle.ecf_stream.specs.declared.line_reader.Fed.TheVariants as fed
use Rattle.ecf_stream.specs.LineState.{LineState, opened, part_of, has_lf, limit_passed_with, answer_to, state_after, IsWithin}
use Rattle.ecf_stream.specs.Cuts.{Cut, cut_with, cut_from, to_come, stop_only, Says, LinesAreCut}
use Rattle.ecf_stream.proofs.FeedLaws.{passed_later, line_answered, long_answered, bytes_answered, only_bytes, split_at_lf, whole_part, plain_part}
use Rattle.ecf_stream.proofs.SayingLaws.{IsPlain, lines_some}
use Rattle.ecf_stream.proofs.StateLaws.{answer_is}
use Rattle.ecf_stream.proofs.ReadLaws.{opened_within, grown, after_more, after_line}

module _ (most_line most_bytes before bytes : ℕ) where
  abbrev cut_of : List ℕ → Cut
  cut_of all = cut_from most_line most_bytes before bytes (lines_of all)

  -- the first line, ended by an LF
  cut_line : (line rest : List ℕ) → IsPlain line →
      cut_of (line ++ (10 ∷ rest)) ≡ cut_with (limit_passed most_line most_bytes bytes true line) before line (cut_from most_line most_bytes (before + 1) (bytes + bytes_of_line true line) (lines_of rest))
  unfolding cut_from
  cut_line line rest plain =
      let more = lines_some rest in
      ap (λ lines. cut_from most_line most_bytes before bytes lines) (slice_split_at is_lf line 10 rest plain refl)
      ∙ ap (λ lines. cut_from most_line most_bytes before bytes (line ∷ lines)) more.2
      ∙ sym (ap (λ lines. cut_with (limit_passed most_line most_bytes bytes true line) before line (cut_from most_line most_bytes (before + 1) (bytes + bytes_of_line true line) lines)) more.2)

  -- the last line
  cut_last : (line : List ℕ) → IsPlain line → cut_of line ≡ cut_with (limit_passed most_line most_bytes bytes false line) before line (record { lines = []; stop = None })
  unfolding cut_from
  cut_last line plain = ap (λ lines. cut_from most_line most_bytes before bytes lines) (slice_split_none is_lf line plain)

  abbrev stop_of : StopCause → Cut
  stop_of cause = record { lines = []; stop = Some (record { line = before + 1; cause = cause }) }

  ended_passes : (line rest : List ℕ) (cause : StopCause) → IsPlain line → limit_passed most_line most_bytes bytes true line ≡ Some cause → cut_of (line ++ (10 ∷ rest)) ≡ stop_of cause
  ended_passes line rest cause plain e =
      cut_line line rest plain
      ∙ ap (λ o. cut_with o before line (cut_from most_line most_bytes (before + 1) (bytes + bytes_of_line true line) (lines_of rest))) e

  -- a line that isn't ended yet, however it goes on
  open_passes : (line more : List ℕ) (cause : StopCause) → IsPlain line → limit_passed most_line most_bytes bytes false line ≡ Some cause → cut_of (line ++ more) ≡ stop_of cause
  open_passes line more cause plain e = by (has_lf more) refl where
    by : (b : Bool) → has_lf more ≡ b → cut_of (line ++ more) ≡ stop_of cause
    by true has =
        ap (λ all. cut_of (line ++ all)) (split_at_lf more has)
        ∙ ap cut_of (sym (append_assoc line (part_of more) _))
        ∙ ended_passes (line ++ part_of more) _ cause (All-append (λ byte. is_lf byte ≡ false) line (part_of more) plain (plain_part more)) (passed_later most_line most_bytes bytes true line (part_of more) cause e)
    by false none =
        let all : IsPlain more = subst IsPlain (whole_part more none) (plain_part more) in
        cut_last (line ++ more) (All-append (λ byte. is_lf byte ≡ false) line more plain all)
        ∙ ap (λ o. cut_with o before (line ++ more) (record { lines = []; stop = None })) (passed_later most_line most_bytes bytes false line more cause e)

  -- a limit that is passed with a piece
  passes : (line piece more : List ℕ) (cause : StopCause) → IsPlain line → limit_passed most_line most_bytes bytes (has_lf piece) (line ++ part_of piece) ≡ Some cause → cut_of (line ++ (piece ++ more)) ≡ stop_of cause
  passes line piece more cause plain e = by (has_lf piece) refl where
    by : (b : Bool) → has_lf piece ≡ b → cut_of (line ++ (piece ++ more)) ≡ stop_of cause
    by true has =
        let rest = drop (length (part_of piece) + 1) piece in
        ap (λ p. cut_of (line ++ (p ++ more))) (split_at_lf piece has)
        ∙ ap (λ all. cut_of (line ++ all)) (append_assoc (part_of piece) (10 ∷ rest) more)
        ∙ ap cut_of (sym (append_assoc line (part_of piece) (10 ∷ (rest ++ more))))
        ∙ ended_passes (line ++ part_of piece) (rest ++ more) cause (All-append (λ byte. is_lf byte ≡ false) line (part_of piece) plain (plain_part piece)) (subst (λ b. limit_passed most_line most_bytes bytes b (line ++ part_of piece) ≡ Some cause) has e)
    by false none =
        let part = whole_part piece none in
        ap cut_of (sym (append_assoc line piece more))
        ∙ open_passes (line ++ piece) more cause
        (All-append (λ byte. is_lf byte ≡ false) line piece plain (subst IsPlain part (plain_part piece)))
        (subst (λ p. limit_passed most_line most_bytes bytes false (line ++ p) ≡ Some cause) part (subst (λ b. limit_passed most_line most_bytes bytes b (line ++ part_of piece) ≡ Some cause) none e))

-- ---- each answer

more_says : (s : LineState) (piece more : List ℕ) → s.over ≡ None → answer_to s piece ≡ fed.More → to_come s (piece ++ more) ≡ to_come (state_after s piece) more
more_says s piece more none e =
    ap (λ all. cut_of (opened s).most_line (opened s).most_bytes (opened s).lines (opened s).bytes all) (sym (append_assoc (opened s).line piece more))
    ∙ ap (λ (t : LineState). to_come t more) (sym (after_more s piece none e))

line_says : (s : LineState) (piece more : List ℕ) (taken : ℕ) → IsWithin s → s.over ≡ None → answer_to s piece ≡ fed.Line taken →
    to_come s (piece ++ more) ≡ cut_with None (opened s).lines (state_after s piece).line (to_come (state_after s piece) (drop taken piece ++ more))
line_says s piece more taken w none e =
    let o = opened s in
    let part = part_of piece in
    let rest = drop taken piece in
    let t = after_line s piece taken none e in
    let a = line_answered o piece (limit_passed_with o piece) taken (sym (answer_is s piece none) ∙ e) in
    let limit : limit_passed o.most_line o.most_bytes o.bytes true (o.line ++ part) ≡ None = subst (λ b. limit_passed o.most_line o.most_bytes o.bytes b (o.line ++ part) ≡ None) a.1 a.0 in
    ap (λ p. cut_of o.most_line o.most_bytes o.lines o.bytes (o.line ++ (p ++ more))) t.1
    ∙ ap (λ all. cut_of o.most_line o.most_bytes o.lines o.bytes (o.line ++ all)) (append_assoc part (10 ∷ rest) more)
    ∙ ap (λ all. cut_of o.most_line o.most_bytes o.lines o.bytes all) (sym (append_assoc o.line part (10 ∷ (rest ++ more))))
    ∙ cut_line o.most_line o.most_bytes o.lines o.bytes (o.line ++ part) (rest ++ more) (All-append (λ byte. is_lf byte ≡ false) o.line part (opened_within s w).plain (plain_part piece))
    ∙ ap (λ l. cut_with l o.lines (o.line ++ part) (cut_from o.most_line o.most_bytes (o.lines + 1) (o.bytes + bytes_of_line true (o.line ++ part)) (lines_of (rest ++ more)))) limit
    ∙ ap (λ (n : LineState). cut_with None o.lines n.line (to_come n (rest ++ more))) (sym t.0)

says : (s : LineState) (piece more : List ℕ) (answer : Fed) → IsWithin s → s.over ≡ None → answer_to s piece ≡ answer → Says answer s (state_after s piece) piece more
says s piece more fed.More w none e = more_says s piece more none e
says s piece more (fed.Line taken) w none e = line_says s piece more taken w none e
says s piece more (fed.Long taken) w none e =
    let o = opened s in
    passes o.most_line o.most_bytes o.lines o.bytes o.line piece more Long (opened_within s w).plain
    (long_answered o piece (limit_passed_with o piece) taken (sym (answer_is s piece none) ∙ e))
says s piece more (fed.Bytes taken) w none e =
    let o = opened s in
    passes o.most_line o.most_bytes o.lines o.bytes o.line piece more Bytes (opened_within s w).plain
    (only_bytes o.most_line o.most_bytes o.bytes (has_lf piece) (o.line ++ part_of piece)
    (bytes_answered o piece (limit_passed_with o piece) taken (sym (answer_is s piece none) ∙ e)))

pub lines_are_cut : LinesAreCut
lines_are_cut s piece more w none = says s piece more (answer_to s piece) w none refl
