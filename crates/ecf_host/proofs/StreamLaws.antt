-- Reading a stream round by round is reading all of it.
use Rattle.std.proofs.Common.{◌≡◌, ◌≢◌, ℕ, suc, ◌<◌, ◌≤◌, ◌+◌, ◌++◌, Bool, true, false, List, [], ◌∷◌, Option, Some, None, IfSome, Ok, Err, length, refl, ap, sym, subst, ◌∙◌, arith, append_assoc, append-nil, length-append}
use Rattle.std.specs.Prelude.{nat_lt, not, if◌then◌else◌}
use Rattle.std.proofs.lemmas.List.Concat.{flat_map-append}
use Rattle.std.proofs.lemmas.List.Elements.{All-nil, All-append}
use Rattle.std.proofs.lemmas.List.Splits.{length-slice_split}
use Rattle.ecf_edge.specs.Chains.{Gave-nil, Gave-append}
use Rattle.ecf_edge.specs.Source.{Gave, IsAtEnd}
use Rattle.ecf_lang.specs.declared.receipt.Stop.{Stop}
use Rattle.ecf_lang.specs.declared.receipt.StopCause.{StopCause}
use Rattle.ecf_lang.specs.declared.receipt.StopCause.TheVariants.{Form, Object, Method, Fuel, Arity, Arg, Long, Many, Bytes, Read}
use Rattle.ecf_lang.specs.declared.limits.TheConstants.{MAX_LINE_BYTES, MAX_ROUND, MAX_STREAM_BYTES}
use Rattle.ecf_lang.specs.declared.tx.Tx.{Tx}
use Rattle.ecf_lang.specs.declared.typed.Typed.{Typed}
use Rattle.ecf_lines.specs.declared.saying.Saying.{Saying}
use Rattle.ecf_lines.specs.declared.saying.Saying.TheVariants.{Nothing, Asks, TakesOut}
use Rattle.ecf_lines.specs.Line.{Reading}
use Rattle.ecf_lines.specs.Stream.{Place, StreamSaid, is_lf, lines_of, saying_of, unless_passed, saying_at, last_saying_at, place_behind, nothing_said, said_with, said_from, stream_said}
use Rattle.ecf_stream.specs.declared.stream_reader.Reach.{Reach}
use Rattle.ecf_stream.specs.declared.stream_reader.Reach.TheVariants as reach
use Rattle.ecf_stream.specs.declared.stream_reader.Stage.{Stage}
use Rattle.ecf_stream.specs.declared.stream_reader.Stage.TheVariants as stage
use Rattle.ecf_stream.specs.StreamState.{StreamState, first_state, held_of, place_of, given_at, given_yet, with_txs, MayFollow, IsPlain, whole_lines, EndsUnskipped, IsUpToStop, reach_by, reach_at, faults_at, left_at}
use Rattle.ecf_host.specs.declared.rounds.RoundEnd.{RoundEnd}
use Rattle.ecf_host.specs.Rounds.{just, HasGivenLines, HasReadRounds, IsUpTo, IsRead}
use Rattle.ecf_host.specs.Rounds.{IsRead as round}
use Rattle.ecf_host.specs.Run.{IsRoundRead}
use Rattle.ecf_host.specs.Stream.{IsReadFault, ReadsToEnd, IsStream}
use Rattle.ecf_host.specs.Stream.IsStream.{read_on, cut_off}
use Rattle.ecf_host.specs.World.{SourceState}

-- ---- behind a failed read there is a stop, and in the last line it tells of that or of a limit

-- a stop in the line of this number, if it is that for a limit or a failed read
EndsCut : ℕ → Option Stop → Type 0
EndsCut line None = ⊥
EndsCut line (Some stop) = stop.line ≡ line → stop.cause ≢ Long → stop.cause ≢ Bytes → stop.cause ≡ Read

limit_ends_cut : (line : ℕ) (long bytes : Bool) → EndsCut line (Some (record { line = line; cause = Read })) → (at : Place) → at.lines + 1 ≡ line →
    EndsCut line (said_with at (unless_passed (if long then Some Long else if bytes then Some Bytes else None) (Err Read)) (λ saying. nothing_said)).stop
unfolding EndsCut
limit_ends_cut line true bytes h at is = λ same long other. absurd (long refl)
limit_ends_cut line false true h at is = λ same long other. absurd (other refl)
limit_ends_cut line false false h at is = λ same long other. refl

first_ends_cut : (at : Place) (reading : Reading Saying) (rest : Saying → StreamSaid) (line : ℕ) → at.lines + 1 < line → ((saying : Saying) → EndsCut line (rest saying).stop) → EndsCut line (said_with at reading rest).stop
unfolding EndsCut
first_ends_cut at (Err cause) rest line before h = λ same long other. absurd (omega (arith, same))
first_ends_cut at (Ok Nothing) rest line before h = h Nothing
first_ends_cut at (Ok (Asks tx)) rest line before h = h (Asks tx)
first_ends_cut at (Ok (TakesOut watch)) rest line before h = h (TakesOut watch)

ends_cut : (typed : Typed) (controls : Bool) (at : Place) (lines : List (List ℕ)) → 1 ≤ length lines → EndsCut (at.lines + length lines) (said_from typed controls at lines true).stop
unfolding said_from EndsCut
ends_cut typed controls at [] some = absurd (omega arith)
ends_cut typed controls at (last ∷ []) some = limit_ends_cut (at.lines + 1) _ _ (λ same long other. refl) at refl
ends_cut typed controls at (line ∷ next ∷ more) some =
    first_ends_cut at (saying_at typed controls at true line) (λ saying. said_from typed controls (place_behind at line saying) (next ∷ more) true) (at.lines + length (line ∷ next ∷ more)) (omega arith)
    (λ saying. subst (λ n. EndsCut n (said_from typed controls (place_behind at line saying) (next ∷ more) true).stop) (omega arith) (ends_cut typed controls (place_behind at line saying) (next ∷ more) (omega arith)))

-- what a stream says where a read failed behind its bytes
cut_stream : (typed : Typed) (bytes : List ℕ) → EndsCut (length (lines_of bytes)) (stream_said typed false 0 bytes true).stop
cut_stream typed bytes =
    let some = length-slice_split is_lf bytes in
    subst (λ n. EndsCut n (stream_said typed false 0 bytes true).stop) (omega arith) (ends_cut typed false (record { lines = 0; bytes = 0; txs = 0 }) (lines_of bytes) (omega (arith, some)))

-- a reading that a failed read wouldn't change didn't come to the last line
not_cut : (bytes : List ℕ) (stop : Option Stop) → EndsCut (length (lines_of bytes)) stop → ¬ IsReadFault stop → ReadsToEnd bytes stop → ⊥
unfolding EndsCut
not_cut bytes None cut fault ends = cut
not_cut bytes (Some stop) cut fault ends = fault (cut ends.0 ends.1 ends.2)

-- ---- where reading ended

told_at_end : (first left : Option (List ℕ)) (bytes : List ℕ) → Gave first bytes left → IsAtEnd left → IfSome first (λ all. all ≡ bytes)
told_at_end first None bytes gave end = subst (λ o. IfSome o (λ all. all ≡ bytes)) (sym gave) tt
told_at_end first (Some rest) bytes gave end = subst (λ o. IfSome o (λ all. all ≡ bytes)) (sym gave) (ap (λ r. bytes ++ r) end ∙ append-nil bytes)

-- what is left, where it is told
abbrev rest_of : Option (List ℕ) → List ℕ
rest_of None = []
rest_of (Some rest) = rest

told_with_rest : (first left : Option (List ℕ)) (bytes : List ℕ) → Gave first bytes left → IfSome first (λ all. all ≡ bytes ++ rest_of left)
told_with_rest first None bytes gave = subst (λ o. IfSome o (λ all. all ≡ bytes ++ [])) (sym gave) tt
told_with_rest first (Some rest) bytes gave = subst (λ o. IfSome o (λ all. all ≡ bytes ++ rest)) (sym gave) refl

module _ (typed : Typed) (before after : SourceState) (bytes : List ℕ) (txs : List Tx) (stop : Option Stop) (gave : Gave before.left bytes after.left) where
  -- reading ended where it came so far
  is_stream : (far : Reach) → left_at far after.left → after.faults ≡ faults_at far before.faults → (far ≡ reach.Failed → IsReadFault stop) → (IsReadFault stop → far ≡ reach.Failed) →
      ((more : List ℕ) (failed : Bool) → MayFollow far more failed → stream_said typed false 0 (bytes ++ more) failed ≡ just txs stop) → IsStream typed before after (just txs stop)
  is_stream reach.AtEnd end counted fault unread said = read_on (record {
    bytes = bytes;
    told = told_at_end before.left after.left bytes gave end;
    says = sym (ap (λ b. stream_said typed false 0 b false) (sym (append-nil bytes)) ∙ said [] false (refl, refl));
    gave = (bytes, gave);
    at_end = λ _. end;
    no_fault = λ f. (let no : reach.AtEnd ≡ reach.Failed = unread f in cc);
    faults = counted;
  })
  is_stream reach.Open end counted fault unread said = read_on (record {
    bytes = bytes ++ rest_of after.left;
    told = told_with_rest before.left after.left bytes gave;
    says = sym (said (rest_of after.left) false tt);
    gave = (bytes, gave);
    at_end = λ ends. absurd (not_cut (bytes ++ rest_of after.left) stop
        (subst (λ (s : StreamSaid). EndsCut (length (lines_of (bytes ++ rest_of after.left))) s.stop) (said (rest_of after.left) true tt) (cut_stream typed (bytes ++ rest_of after.left)))
        (λ f. (let no : reach.Open ≡ reach.Failed = unread f in cc)) ends);
    no_fault = λ f. (let no : reach.Open ≡ reach.Failed = unread f in cc);
    faults = counted;
  })
  is_stream reach.Failed end counted fault unread said = cut_off (record {
    bytes = bytes;
    gave = gave;
    says = sym (ap (λ b. stream_said typed false 0 b true) (sym (append-nil bytes)) ∙ said [] true (refl, refl));
    fault = fault refl;
    faults = counted;
  })

-- a reading failed exactly where the stop is that of a failed read
not_failed : (is_whole : Bool) → (if is_whole then reach.Open else reach.AtEnd) ≡ reach.Failed → ⊥
not_failed true is = cc
not_failed false is = cc

cause_of_failed : (cause : StopCause) (is_whole : Bool) → reach_by cause is_whole ≡ reach.Failed → cause ≡ Read
cause_of_failed Read is_whole is = refl
cause_of_failed Long is_whole is = absurd (let no : reach.Open ≡ reach.Failed = is in cc)
cause_of_failed Bytes is_whole is = absurd (let no : reach.Open ≡ reach.Failed = is in cc)
cause_of_failed Form is_whole is = absurd (not_failed is_whole is)
cause_of_failed Object is_whole is = absurd (not_failed is_whole is)
cause_of_failed Method is_whole is = absurd (not_failed is_whole is)
cause_of_failed Fuel is_whole is = absurd (not_failed is_whole is)
cause_of_failed Arity is_whole is = absurd (not_failed is_whole is)
cause_of_failed Arg is_whole is = absurd (not_failed is_whole is)
cause_of_failed Many is_whole is = absurd (not_failed is_whole is)

fault_of_failed : (stop : Option Stop) (is_whole : Bool) → reach_at (stage.Ended stop) is_whole ≡ reach.Failed → IsReadFault stop
fault_of_failed None is_whole is = absurd (let no : reach.AtEnd ≡ reach.Failed = is in cc)
fault_of_failed (Some stop) is_whole is = cause_of_failed stop.cause is_whole is

failed_of_fault : (stop : Option Stop) (is_whole : Bool) → IsReadFault stop → reach_at (stage.Ended stop) is_whole ≡ reach.Failed
failed_of_fault None is_whole fault = absurd fault
failed_of_fault (Some stop) is_whole fault = ap (λ cause. reach_by cause is_whole) fault

-- ---- a round more

-- behind whole lines nothing is said of a line without bytes
not_over : (bytes : ℕ) → bytes ≤ MAX_STREAM_BYTES → nat_lt MAX_STREAM_BYTES (bytes + 0) ≡ false
not_over bytes h = grind arith

empty_line : (typed : Typed) (at : Place) → at.bytes ≤ MAX_STREAM_BYTES → said_from typed false at (lines_of []) false ≡ nothing_said
unfolding said_from
empty_line typed at h = ap (λ b. said_with at (unless_passed (if b then Some Bytes else None) (saying_of typed false at.txs [])) (λ saying. nothing_said)) (not_over at.bytes h)

-- the stream was read so far: these lines, which say these transactions, and what the reader holds
pub record IsReading (typed : Typed) (before now : SourceState) (reader : StreamState) (txs : List Tx) : Type 0 where
  pub lines : List (List ℕ)
  pub given : HasGivenLines before now lines (held_of reader)
  pub count : (place_of reader).lines ≡ length lines
  pub within : (place_of reader).bytes ≤ MAX_STREAM_BYTES
  pub say : (more : List ℕ) (failed : Bool) → stream_said typed false 0 (whole_lines lines ++ more) failed ≡ with_txs txs (said_from typed false (place_of reader) (lines_of more) failed)
  pub no_fault : now.faults ≡ before.faults

unfoldable pub starts : (typed : Typed) (source : SourceState) → IsReading typed source source (first_state false 0) []
starts typed source = record {
  lines = [];
  given = record { unbroken = All-nil IsPlain; gave = Gave-nil source.left };
  count = refl;
  within = omega arith;
  say = λ more failed. refl;
  no_fault = refl;
}

-- whole rounds, and whatever was read behind them
pub read_rounds : (typed : Typed) (before now after : SourceState) (reader : StreamState) (txs : List Tx) (r : IsReading typed before now reader txs) (more : List ℕ) → Gave now.left more after.left → after.faults ≡ now.faults →
    HasReadRounds typed before after txs r.lines (held_of reader ++ more)
read_rounds typed before now after reader txs r more gave faults = record {
  given = record {
    unbroken = r.given.unbroken;
    gave = subst (λ bytes. Gave before.left bytes after.left) (append_assoc (whole_lines r.lines) (held_of reader) more)
        (Gave-append before.left now.left after.left (whole_lines r.lines ++ held_of reader) more r.given.gave gave);
  };
  say = ap (λ bytes. stream_said typed false 0 bytes false) (sym (append-nil (whole_lines r.lines)))
      ∙ r.say [] false
      ∙ ap (with_txs txs) (empty_line typed (place_of reader) r.within)
      ∙ ap (λ ts. just ts None) (append-nil txs);
  no_fault = faults ∙ r.no_fault;
}

pub rounds_read : (typed : Typed) (before now : SourceState) (reader : StreamState) (txs : List Tx) (r : IsReading typed before now reader txs) → HasReadRounds typed before now txs r.lines (held_of reader)
rounds_read typed before now reader txs r =
    subst (HasReadRounds typed before now txs r.lines) (append-nil (held_of reader)) (read_rounds typed before now now reader txs r [] (Gave-nil now.left) refl)

up_to : (stop : Option Stop) (lines : List (List ℕ)) (count : ℕ) → count ≡ length lines → IsUpToStop (stage.Ended stop) count → IsUpTo stop lines
up_to None lines count is h = tt
up_to (Some stop) lines count is h = omega (arith, is, h)

ends_behind : (first second : List (List ℕ)) → EndsUnskipped second → EndsUnskipped (first ++ second)
ends_behind first second h = record {
  front = first ++ h.front;
  line = h.line;
  are = ap (λ lines. first ++ lines) h.are ∙ sym (append_assoc first h.front (h.line ∷ []));
  unskipped = h.unskipped;
}

module _ (typed : Typed) (before mid after : SourceState) (old new : StreamState) (txs latest : List Tx) (end : RoundEnd) (so_far : IsReading typed before mid old txs)
    (going : old.stage ≡ stage.Reading) (controls : old.controls ≡ false) (read : IsRoundRead typed old new mid after latest end) where
  abbrev pub lines : List (List ℕ)
  lines = so_far.lines ++ read.reads.lines

  both_lines : whole_lines lines ≡ whole_lines so_far.lines ++ whole_lines read.reads.lines
  both_lines = flat_map-append (λ (line : List ℕ). line ++ 10 ∷ []) so_far.lines read.reads.lines

  -- what was held and came is whole lines, and what is held now
  bytes_are : (whole_lines so_far.lines ++ held_of old) ++ read.reads.piece ≡ whole_lines lines ++ held_of new
  bytes_are =
      append_assoc (whole_lines so_far.lines) (held_of old) read.reads.piece
      ∙ ap (λ bytes. whole_lines so_far.lines ++ bytes) read.reads.deals.kept
      ∙ sym (append_assoc (whole_lines so_far.lines) (whole_lines read.reads.lines) (held_of new))
      ∙ ap (λ bytes. bytes ++ held_of new) (sym both_lines)

  gave : Gave before.left (whole_lines lines ++ held_of new) after.left
  gave = subst (λ bytes. Gave before.left bytes after.left) bytes_are
      (Gave-append before.left mid.left after.left (whole_lines so_far.lines ++ held_of old) read.reads.piece so_far.given.gave read.reads.gave)

  pub all_given : HasGivenLines before after lines (held_of new)
  all_given = record { unbroken = All-append IsPlain so_far.lines read.reads.lines so_far.given.unbroken read.reads.deals.unbroken; gave = gave }

  all_counted : (place_of new).lines ≡ length lines
  all_counted =
      let some = so_far.count in
      let more = read.reads.deals.count in
      let both = length-append so_far.lines read.reads.lines in
      omega (arith, some, more, both)

  with_both : (rest : StreamSaid) → with_txs txs (with_txs latest rest) ≡ with_txs (txs ++ latest) rest
  with_both rest = ap (λ ts. let said : StreamSaid = record { txs = ts; offs = rest.offs; stop = rest.stop } in said) (sym (append_assoc txs latest rest.txs))

  reach_is : (at : Stage) → new.stage ≡ at → read.reads.far ≡ reach_at at new.lines.is_whole
  reach_is at is = read.reads.reached going ∙ ap (λ s. reach_at s new.lines.is_whole) is

  say : new.stage ≡ stage.Reading → (more : List ℕ) (failed : Bool) → stream_said typed false 0 (whole_lines lines ++ more) failed ≡ with_txs (txs ++ latest) (said_from typed false (place_of new) (lines_of more) failed)
  say is more failed =
      ap (λ bytes. stream_said typed false 0 (bytes ++ more) failed) both_lines
      ∙ ap (λ bytes. stream_said typed false 0 bytes failed) (append_assoc (whole_lines so_far.lines) (whole_lines read.reads.lines) more)
      ∙ so_far.say (whole_lines read.reads.lines ++ more) failed
      ∙ ap (λ reads. with_txs txs (said_from typed reads (place_of old) (lines_of (whole_lines read.reads.lines ++ more)) failed)) (sym controls)
      ∙ ap (with_txs txs) (read.reads.deals.say is more failed)
      ∙ ap (λ reads. with_txs txs (with_txs latest (said_from typed reads (place_of new) (lines_of more) failed))) (read.controls ∙ controls)
      ∙ with_both (said_from typed false (place_of new) (lines_of more) failed)

  -- reading goes on
  pub reads_on : new.stage ≡ stage.Reading → IsReading typed before after new (txs ++ latest)
  reads_on is = record {
    lines = lines;
    given = all_given;
    count = all_counted;
    within = read.within;
    say = say is;
    no_fault = read.reads.counted ∙ ap (λ far. faults_at far mid.faults) (reach_is stage.Reading is) ∙ so_far.no_fault;
  }

  said_then : (more : List ℕ) (failed : Bool) → MayFollow read.reads.far more failed → stream_said typed false 0 ((whole_lines lines ++ held_of new) ++ more) failed ≡ with_txs (txs ++ latest) (given_yet typed new more failed)
  said_then more failed follows =
      ap (λ bytes. stream_said typed false 0 (bytes ++ more) failed) (sym bytes_are)
      ∙ ap (λ bytes. stream_said typed false 0 bytes failed) (append_assoc (whole_lines so_far.lines ++ held_of old) read.reads.piece more ∙ append_assoc (whole_lines so_far.lines) (held_of old) (read.reads.piece ++ more))
      ∙ so_far.say (held_of old ++ (read.reads.piece ++ more)) failed
      ∙ ap (λ reads. with_txs txs (said_from typed reads (place_of old) (lines_of (held_of old ++ (read.reads.piece ++ more))) failed)) (sym controls)
      ∙ ap (λ at. with_txs txs (given_at at typed old (read.reads.piece ++ more) failed)) (sym going)
      ∙ ap (with_txs txs) (read.reads.said more failed follows)
      ∙ with_both (given_yet typed new more failed)

  -- reading has ended
  pub reads_to : (stop : Option Stop) → new.stage ≡ stage.Ended stop → IsStream typed before after (just (txs ++ latest) stop)
  reads_to stop is =
      is_stream typed before after (whole_lines lines ++ held_of new) (txs ++ latest) stop gave read.reads.far read.reads.end (read.reads.counted ∙ ap (faults_at read.reads.far) so_far.no_fault)
      (λ failed. fault_of_failed stop new.lines.is_whole (sym (reach_is (stage.Ended stop) is) ∙ failed))
      (λ fault. reach_is (stage.Ended stop) is ∙ failed_of_fault stop new.lines.is_whole fault)
      (λ more failed follows. said_then more failed follows
      ∙ ap (λ at. with_txs (txs ++ latest) (given_at at typed new more failed)) is
      ∙ ap (λ ts. just ts stop) (append-nil (txs ++ latest)))

  pub still_reading : end.ended ≡ false → new.stage ≡ stage.Reading
  still_reading is = (read.part.full is refl).1

  pub is_full : end.ended ≡ false → length latest ≡ MAX_ROUND
  is_full is = (read.part.full is refl).0

  pub goes_on : end.ended ≡ false → IsReading typed before after new (txs ++ latest)
  goes_on is = reads_on (still_reading is)

  pub has_ended : end.ended ≡ true → IsStream typed before after (just (txs ++ latest) end.stop)
  has_ended is = reads_to end.stop (read.part.at_end is)

  read_by : (test : Bool) → end.ended ≡ test → IsRead typed before after txs latest lines (held_of new)
  unfolding goes_on reads_on
  read_by true is = round.has_ended end.stop (has_ended is) all_given
      (up_to end.stop lines (place_of new).lines all_counted (subst (λ at. IsUpToStop at (place_of new).lines) (read.part.at_end is) (read.reads.deals.up_to_stop going)))
  read_by false is = round.goes_on (rounds_read typed before after new (txs ++ latest) (goes_on is)) (is_full is)
      (ends_behind so_far.lines read.reads.lines (read.reads.last (ap not is) (still_reading is)))

  -- the round was read, and no more
  pub is_read : IsRead typed before after txs latest lines (held_of new)
  is_read = read_by end.ended refl
