-- How a reader comes to the next line.
use Rattle.std.proofs.Common.{◌≡◌, ℕ, zero, suc, ◌+◌, ◌-◌, ◌^◌, ◌<◌, ◌≤◌, Bool, true, false, cond, List, [], ◌∷◌, ◌++◌, length, drop, Option, Some, None, Ok, Err, refl, sym, ap, subst, ◌∙◌, arith, append_assoc, append-nil, length-append}
use Rattle.std.specs.Prelude.{All}
use Rattle.std.specs.Str.Lines.{strip_carriage_return}
use Rattle.std.proofs.lemmas.List.Elements.{All-nil, All-append}
use Rattle.ecf_edge.specs.Chains.{Gave-nil, Gave-append}
use Rattle.ecf_edge.specs.Source.{Gave}
use Rattle.ecf_lang.specs.declared.limits.TheConstants.{MAX_LINE_BYTES, MAX_STREAM_BYTES, MAX_TRANSACTIONS}
use Rattle.ecf_lang.specs.declared.receipt.StopCause.{StopCause}
use Rattle.ecf_lang.specs.declared.receipt.StopCause.TheVariants.{Long, Bytes, Read}
use Rattle.ecf_lang.specs.declared.typed.Typed.{Typed}
use Rattle.ecf_lines.specs.Stream.{is_lf, bytes_of_line, limit_passed, lines_of, Place, said_with, nothing_said, unless_passed, said_from}
use Rattle.ecf_stream.specs.declared.line_reader.Fed.{Fed}
use Rattle.ecf_stream.specs.declared.line_reader.Fed.TheVariants as fed
use Rattle.ecf_stream.specs.declared.stream_reader.Stage.TheVariants as stage
use Rattle.ecf_stream.specs.declared.stream_reader.Reach.TheVariants as reach
use Rattle.ecf_stream.specs.LineState.{LineState, opened_by, opened, part_of, has_lf, limit_passed_with, state_by, answer_to, state_after, IsWithin}
use Rattle.ecf_stream.specs.StreamState.{StreamState, IsSound, first_state, place_of, held_of, stop_at, stopped_at, state_fed, is_reading, IsFine, reach_of, IsUpToStop, given_yet, only_stop, MayFollow, at_line, HasLine, HasStop}
use Rattle.ecf_stream.proofs.FeedLaws.{none_passed, more_answered, line_answered, long_answered, IsOther, other, bytes_answered, split_at_lf, whole_part, plain_part, only_bytes}
use Rattle.ecf_stream.proofs.SayingLaws.{IsPlain, said_last, ended_passes, open_passes}
use Rattle.ecf_stream.proofs.StateLaws.{state, answer_is, state_is, goes_on, opened_over, opened_open}

-- ---- the line at hand, once some of it came

pub opened_within : (s : LineState) → IsWithin s → IsWithin (opened s)
opened_within s w = by s.is_whole refl where
  by : (b : Bool) → s.is_whole ≡ b → IsWithin (opened_by b s)
  by false e = w
  by true e =
      let lines = w.lines in
      let bytes : s.bytes + bytes_of_line true s.line ≤ s.most_bytes = subst (λ b. s.bytes + bytes_of_line b s.line ≤ s.most_bytes) e w.bytes in
      record {
        small_line = w.small_line;
        small_stream = w.small_stream;
        lines = omega (arith, lines);
        line = omega arith;
        bytes = omega (arith, bytes);
        plain = All-nil (λ byte. is_lf byte ≡ false);
      }

-- the line at hand with more bytes, ended or not
abbrev pub grown : LineState → List ℕ → Bool → LineState
grown s part is_whole = record { most_line = s.most_line; most_bytes = s.most_bytes; lines = s.lines; bytes = s.bytes; line = s.line ++ part; is_whole = is_whole; over = s.over }

pub after_more : (s : LineState) (piece : List ℕ) → s.over ≡ None → answer_to s piece ≡ fed.More → state_after s piece ≡ grown (opened s) piece false
after_more s piece e f =
    let t = more_answered (opened s) piece (limit_passed_with (opened s) piece) (sym (answer_is s piece e) ∙ f) in
    goes_on s piece e t.0 ∙ ap (λ b. grown (opened s) (part_of piece) b) t.1 ∙ ap (λ part. grown (opened s) part false) (whole_part piece t.1)

pub after_line : (s : LineState) (piece : List ℕ) (taken : ℕ) → s.over ≡ None → answer_to s piece ≡ fed.Line taken → (state_after s piece ≡ grown (opened s) (part_of piece) true) × (piece ≡ part_of piece ++ (10 ∷ drop taken piece))
after_line s piece taken e f =
    let t = line_answered (opened s) piece (limit_passed_with (opened s) piece) taken (sym (answer_is s piece e) ∙ f) in
    (goes_on s piece e t.0 ∙ ap (λ b. grown (opened s) (part_of piece) b) t.1, split_at_lf piece t.1 ∙ ap (λ n. part_of piece ++ (10 ∷ drop n piece)) t.2)

-- ---- so far no line is whole

-- the reader goes on with what was held and a piece more
pub record HasMore (old s : StreamState) (left left' : Option (List ℕ)) : Type 0 where
  pub piece : List ℕ
  pub gave : Gave left piece left'
  pub held : held_of s ≡ held_of old ++ piece
  pub place : place_of s ≡ place_of old
  pub controls : s.controls ≡ old.controls
  pub txs : s.txs ≡ old.txs
  pub going : s.stage ≡ stage.Reading

pub none_yet : (s : StreamState) (left : Option (List ℕ)) → s.stage ≡ stage.Reading → HasMore s s left left
none_yet s left e = record { piece = []; gave = Gave-nil left; held = sym (append-nil (held_of s)); place = refl; controls = refl; txs = refl; going = e }

pub filled : (old s new : StreamState) (left mid left' : Option (List ℕ)) → HasMore old s left mid → new ≡ record s { rest = new.rest } → (piece : List ℕ) × Gave mid piece left' × (new.rest ≡ s.rest ++ piece) → HasMore old new left left'
filled old s new left mid left' h e g = record {
  piece = h.piece ++ g.0;
  gave = Gave-append left mid left' h.piece g.0 h.gave g.1;
  held = ap held_of e ∙ ap (λ rest. (opened s.lines).line ++ rest) g.2 ∙ sym (append_assoc (opened s.lines).line s.rest g.0) ∙ ap (λ held. held ++ g.0) h.held ∙ append_assoc (held_of old) h.piece g.0;
  place = ap place_of e ∙ h.place;
  controls = ap (λ (t : StreamState). t.controls) e ∙ h.controls;
  txs = ap (λ (t : StreamState). t.txs) e ∙ h.txs;
  going = ap (λ (t : StreamState). t.stage) e ∙ h.going;
}

-- the reader once the line at hand took all
abbrev pub after_all : StreamState → LineState → StreamState
after_all s lines = state s.controls lines [] s.txs s.stage

more_is : (s new : StreamState) → s.lines.over ≡ None → answer_to s.lines s.rest ≡ fed.More → new ≡ state_fed s fed.More → new ≡ after_all s (grown (opened s.lines) s.rest false)
more_is s new e f g = g ∙ ap (after_all s) (after_more s.lines s.rest e f)

pub went_on : (old s new : StreamState) (left left' : Option (List ℕ)) → HasMore old s left left' → s.lines.over ≡ None → answer_to s.lines s.rest ≡ fed.More → new ≡ state_fed s fed.More → HasMore old new left left'
went_on old s new left left' h e f g =
    let is = more_is s new e f g in
    record {
      piece = h.piece;
      gave = h.gave;
      held = ap held_of is ∙ append-nil ((opened s.lines).line ++ s.rest) ∙ h.held;
      place = ap place_of is ∙ h.place;
      controls = ap (λ (t : StreamState). t.controls) is ∙ h.controls;
      txs = ap (λ (t : StreamState). t.txs) is ∙ h.txs;
      going = ap (λ (t : StreamState). t.stage) is ∙ h.going;
    }

-- how many bytes the lines have so far
abbrev pub bytes_taken : StreamState → ℕ
bytes_taken s = (opened s.lines).bytes + length (opened s.lines).line

pub taken_grows : (s new : StreamState) → s.lines.over ≡ None → answer_to s.lines s.rest ≡ fed.More → new ≡ state_fed s fed.More → bytes_taken new ≡ bytes_taken s + length s.rest
taken_grows s new e f g =
    let count = length-append (opened s.lines).line s.rest in
    let is : bytes_taken new ≡ (opened s.lines).bytes + length ((opened s.lines).line ++ s.rest) = ap bytes_taken (more_is s new e f g) in
    omega (arith, is, count)

-- no more bytes are taken than a stream may have
pub taken_bounded : (s : StreamState) → IsSound s → bytes_taken s ≤ MAX_STREAM_BYTES
taken_bounded s w =
    let o = opened_within s.lines w.within in
    let bytes : (opened s.lines).bytes + bytes_of_line (opened s.lines).is_whole (opened s.lines).line ≤ (opened s.lines).most_bytes = o.bytes in
    let most : (opened s.lines).most_bytes ≡ MAX_STREAM_BYTES = same s.lines.is_whole ∙ w.most_bytes in
    at_most (opened s.lines).bytes (length (opened s.lines).line) (cond (opened s.lines).is_whole 1 0) (opened s.lines).most_bytes MAX_STREAM_BYTES bytes most
  where
    same : (b : Bool) → (opened_by b s.lines).most_bytes ≡ s.lines.most_bytes
    same true = refl
    same false = refl

    at_most : (a b d m n : ℕ) → a + (b + d) ≤ m → m ≡ n → a + b ≤ n
    at_most a b d m n h e = omega (arith, h, e)

-- ---- a line

opened_most : (b : Bool) (s : LineState) → (opened_by b s).most_line ≡ s.most_line
opened_most true s = refl
opened_most false s = refl

opened_most_bytes : (b : Bool) (s : LineState) → (opened_by b s).most_bytes ≡ s.most_bytes
opened_most_bytes true s = refl
opened_most_bytes false s = refl

-- the line at hand of a sound reader, part by part
line_is : (s : StreamState) (part : List ℕ) (b : Bool) → IsSound s → s.lines.over ≡ None → grown (opened s.lines) part b ≡ (at_line s ((opened s.lines).line ++ part) [] b).lines
line_is s part b w e =
    ap (λ n. record (grown (opened s.lines) part b) { most_line = n }) (opened_most s.lines.is_whole s.lines ∙ w.most_line)
    ∙ ap (λ n. record (grown (opened s.lines) part b) { most_line = MAX_LINE_BYTES; most_bytes = n }) (opened_most_bytes s.lines.is_whole s.lines ∙ w.most_bytes)
    ∙ ap (λ o. record (grown (opened s.lines) part b) { most_line = MAX_LINE_BYTES; most_bytes = MAX_STREAM_BYTES; over = o }) (opened_over s.lines.is_whole s.lines ∙ e)

-- a reader at a line, with what it had before
moved : (old s : StreamState) (line rest : List ℕ) (b : Bool) → place_of s ≡ place_of old → s.controls ≡ old.controls → s.txs ≡ old.txs → at_line s line rest b ≡ at_line old line rest b
moved old s line rest b p q r =
    ap (λ at. placed s.controls at s.txs) p ∙ ap (λ controls. placed controls (place_of old) s.txs) q ∙ ap (λ txs. placed old.controls (place_of old) txs) r
  where
    placed : Bool → Place → ℕ → StreamState
    placed controls at txs = record {
      controls = controls;
      lines = record { most_line = MAX_LINE_BYTES; most_bytes = MAX_STREAM_BYTES; lines = at.lines; bytes = at.bytes; line = line; is_whole = b; over = None };
      rest = rest;
      txs = txs;
      stage = stage.Reading;
    }

pub came_line : (old s new : StreamState) (left left' : Option (List ℕ)) (taken : ℕ) (h : HasMore old s left left') → IsSound s → s.lines.over ≡ None → answer_to s.lines s.rest ≡ fed.Line taken → new ≡ state_fed s (fed.Line taken) → IsSound new → HasLine old new (held_of old ++ h.piece) true
came_line old s new left left' taken h w e f g sound =
    let t = after_line s.lines s.rest taken e f in
    let line = (opened s.lines).line ++ part_of s.rest in
    let rest = drop taken s.rest in
    let is : new ≡ at_line old line rest true =
    g ∙ ap (λ l. state s.controls l rest s.txs s.stage) (t.0 ∙ line_is s (part_of s.rest) true w e)
    ∙ ap (λ at. state s.controls (at_line s line [] true).lines rest s.txs at) h.going
    ∙ moved old s line rest true h.place h.controls h.txs in
    record {
      line = line;
      rest = rest;
      is = is;
      within = subst (λ (t : StreamState). IsWithin t.lines) is sound.within;
      bytes_are = sym h.held ∙ ap (λ r. (opened s.lines).line ++ r) t.1 ∙ sym (append_assoc (opened s.lines).line (part_of s.rest) (10 ∷ rest));
      no_rest = λ no. let none : ⊥ = cc in absurd none;
    }

pub came_last : (old s new : StreamState) (left left' : Option (List ℕ)) (h : HasMore old s left left') → IsSound s → s.lines.over ≡ None → s.rest ≡ [] → new ≡ record s { lines = opened s.lines } → HasLine old new (held_of old ++ h.piece) false
came_last old s new left left' h w e none g =
    let line = (opened s.lines).line in
    let shut : (opened s.lines) ≡ grown (opened s.lines) [] false = opened_is s.lines.is_whole refl in
    let is : new ≡ at_line old (line ++ []) [] false =
    g ∙ ap (λ l. state s.controls l s.rest s.txs s.stage) (shut ∙ line_is s [] false w e)
    ∙ ap (λ r. state s.controls (at_line s (line ++ []) [] false).lines r s.txs s.stage) none
    ∙ ap (λ at. state s.controls (at_line s (line ++ []) [] false).lines [] s.txs at) h.going
    ∙ moved old s (line ++ []) [] false h.place h.controls h.txs in
    record {
      line = line ++ [];
      rest = [];
      is = is;
      within = subst (λ (t : StreamState). IsWithin t.lines) (sym g ∙ is) (opened_within s.lines w.within);
      bytes_are = sym h.held ∙ ap (λ r. line ++ r) none ∙ sym (append-nil (line ++ []));
      no_rest = λ last. refl;
    }
  where
    opened_is : (b : Bool) → s.lines.is_whole ≡ b → opened_by b s.lines ≡ grown (opened_by b s.lines) [] false
    opened_is true e = refl
    opened_is false e = ap (λ l. record s.lines { line = l }) (sym (append-nil s.lines.line)) ∙ ap (λ b. record s.lines { line = s.lines.line ++ []; is_whole = b }) e

-- ---- a stop

-- the limit that was passed, whatever comes behind
stops : (typed : Typed) (s : StreamState) (more : List ℕ) (failed : Bool) (cause : StopCause) → IsSound s → limit_passed_with (opened s.lines) s.rest ≡ Some cause →
    said_from typed s.controls (place_of s) (lines_of (held_of s ++ more)) failed ≡ only_stop (Some (stop_at (opened s.lines) cause))
stops typed s more failed cause w e = by (has_lf s.rest) refl where
  plain : IsPlain (opened s.lines).line
  plain = (opened_within s.lines w.within).plain

  passed : (b : Bool) → has_lf s.rest ≡ b → limit_passed MAX_LINE_BYTES MAX_STREAM_BYTES (place_of s).bytes b ((opened s.lines).line ++ part_of s.rest) ≡ Some cause
  passed b f =
      ap (λ n. limit_passed n MAX_STREAM_BYTES (place_of s).bytes b ((opened s.lines).line ++ part_of s.rest)) (sym (opened_most s.lines.is_whole s.lines ∙ w.most_line))
      ∙ ap (λ n. limit_passed (opened s.lines).most_line n (place_of s).bytes b ((opened s.lines).line ++ part_of s.rest)) (sym (opened_most_bytes s.lines.is_whole s.lines ∙ w.most_bytes))
      ∙ ap (λ b. limit_passed (opened s.lines).most_line (opened s.lines).most_bytes (place_of s).bytes b ((opened s.lines).line ++ part_of s.rest)) (sym f)
      ∙ e

  by : (b : Bool) → has_lf s.rest ≡ b → said_from typed s.controls (place_of s) (lines_of (held_of s ++ more)) failed ≡ only_stop (Some (stop_at (opened s.lines) cause))
  by true f =
      let part = part_of s.rest in
      let rest = drop (length (part_of s.rest) + 1) s.rest in
      let cut : held_of s ++ more ≡ ((opened s.lines).line ++ part) ++ (10 ∷ (rest ++ more)) =
      ap (λ r. ((opened s.lines).line ++ r) ++ more) (split_at_lf s.rest f)
      ∙ ap (λ r. r ++ more) (sym (append_assoc (opened s.lines).line part (10 ∷ rest)))
      ∙ append_assoc ((opened s.lines).line ++ part) (10 ∷ rest) more in
      ap (λ bytes. said_from typed s.controls (place_of s) (lines_of bytes) failed) cut
      ∙ ended_passes typed s.controls (place_of s) ((opened s.lines).line ++ part) (rest ++ more) failed cause (All-append (λ byte. is_lf byte ≡ false) (opened s.lines).line part plain (plain_part s.rest)) (passed true f)
  by false f =
      let part : part_of s.rest ≡ s.rest = whole_part s.rest f in
      open_passes typed s.controls (place_of s) (held_of s) more failed cause
      (All-append (λ byte. is_lf byte ≡ false) (opened s.lines).line s.rest plain (subst IsPlain part (plain_part s.rest)))
      (subst (λ r. limit_passed MAX_LINE_BYTES MAX_STREAM_BYTES (place_of s).bytes false ((opened s.lines).line ++ r) ≡ Some cause) part (passed false f))

-- the same with what the reader had before
stops_before : (typed : Typed) (old s : StreamState) (piece more : List ℕ) (failed : Bool) → held_of s ≡ held_of old ++ piece → place_of s ≡ place_of old → s.controls ≡ old.controls →
    said_from typed old.controls (place_of old) (lines_of ((held_of old ++ piece) ++ more)) failed ≡ said_from typed s.controls (place_of s) (lines_of (held_of s ++ more)) failed
stops_before typed old s piece more failed h p q =
    ap (λ bytes. said_from typed old.controls (place_of old) (lines_of (bytes ++ more)) failed) (sym h)
    ∙ ap (λ at. said_from typed old.controls at (lines_of (held_of s ++ more)) failed) (sym p)
    ∙ ap (λ controls. said_from typed controls (place_of s) (lines_of (held_of s ++ more)) failed) (sym q)

-- a line that isn't whole is the one at hand
open_stays : (l : LineState) → l.is_whole ≡ false → opened l ≡ l
open_stays l e = ap (λ b. opened_by b l) e

-- what a stop at the line at hand leaves
record StopLeaves (old new : StreamState) (w : List ℕ) : Type 0 where
  pub kept : w ≡ held_of new
  pub lines : (place_of new).lines ≡ (place_of old).lines
  pub up_to_stop : IsUpToStop new.stage (place_of new).lines

stop_leaves : (old s new : StreamState) (l : LineState) (cause : StopCause) (w : List ℕ) → new ≡ stopped_at (record s { lines = l }) l cause → l.is_whole ≡ false → l.line ≡ (opened s.lines).line → l.lines ≡ (opened s.lines).lines → w ≡ held_of s → place_of s ≡ place_of old → StopLeaves old new w
stop_leaves old s new l cause w g is_open line number held place =
    let stays : opened l ≡ l = open_stays l is_open in
    let same : (opened l).lines ≡ l.lines = ap (λ (m : LineState). m.lines) stays in
    record {
      kept = held ∙ sym (ap held_of g ∙ ap (λ (m : LineState). m.line ++ s.rest) stays ∙ ap (λ bytes. bytes ++ s.rest) line);
      lines = ap (λ (t : StreamState). (place_of t).lines) g ∙ same ∙ number ∙ ap (λ (p : Place). p.lines) place;
      up_to_stop = subst (λ (t : StreamState). IsUpToStop t.stage (place_of t).lines) (sym g) (omega (arith, same));
    }

pub came_long : (old s new : StreamState) (left left' : Option (List ℕ)) (taken : ℕ) (h : HasMore old s left left') → IsSound s → s.lines.over ≡ None → answer_to s.lines s.rest ≡ fed.Long taken → new ≡ state_fed s (fed.Long taken) → HasStop reach.Open old new (held_of old ++ h.piece)
came_long old s new left left' taken h w e f g =
    let limit = long_answered (opened s.lines) s.rest (limit_passed_with (opened s.lines) s.rest) taken (sym (answer_is s.lines s.rest e) ∙ f) in
    let after : state_after s.lines s.rest ≡ state_by (opened s.lines) s.rest (Some Long) = state_is s.lines s.rest e ∙ ap (state_by (opened s.lines) s.rest) limit in
    let lines : (state_after s.lines s.rest).lines ≡ (opened s.lines).lines = ap (λ (l : LineState). l.lines) after in
    let leaves = stop_leaves old s new (state_after s.lines s.rest) Long (held_of old ++ h.piece) g (ap (λ (l : LineState). l.is_whole) after ∙ opened_open s.lines.is_whole s.lines refl) (ap (λ (l : LineState). l.line) after) lines (sym h.held) h.place in
    record {
      stops = λ typed more failed follow.
          stops_before typed old s h.piece more failed h.held h.place h.controls
          ∙ stops typed s more failed Long w limit
          ∙ ap (λ n. only_stop (Some (record { line = n + 1; cause = Long }))) (sym lines)
          ∙ sym (ap (λ (t : StreamState). given_yet typed t more failed) g);
      ended = ap (λ (t : StreamState). is_reading t.stage) g;
      fine = subst (λ (t : StreamState). IsFine t.stage) (sym g) tt;
      txs = ap (λ (t : StreamState). t.txs) g ∙ h.txs;
      controls = ap (λ (t : StreamState). t.controls) g ∙ h.controls;
      reached = sym (ap reach_of g);
      kept = leaves.kept;
      lines = leaves.lines;
      up_to_stop = leaves.up_to_stop;
    }

pub came_bytes : (old s new : StreamState) (left left' : Option (List ℕ)) (taken : ℕ) (h : HasMore old s left left') → IsSound s → s.lines.over ≡ None → answer_to s.lines s.rest ≡ fed.Bytes taken → new ≡ state_fed s (fed.Bytes taken) → HasStop reach.Open old new (held_of old ++ h.piece)
came_bytes old s new left left' taken h w e f g =
    let limit : limit_passed_with (opened s.lines) s.rest ≡ Some Bytes = only_bytes (opened s.lines).most_line (opened s.lines).most_bytes (opened s.lines).bytes (has_lf s.rest) ((opened s.lines).line ++ part_of s.rest) (bytes_answered (opened s.lines) s.rest (limit_passed_with (opened s.lines) s.rest) taken (sym (answer_is s.lines s.rest e) ∙ f)) in
    let after : state_after s.lines s.rest ≡ state_by (opened s.lines) s.rest (Some Bytes) = state_is s.lines s.rest e ∙ ap (state_by (opened s.lines) s.rest) limit in
    let lines : (state_after s.lines s.rest).lines ≡ (opened s.lines).lines = ap (λ (l : LineState). l.lines) after in
    let leaves = stop_leaves old s new (state_after s.lines s.rest) Bytes (held_of old ++ h.piece) g (ap (λ (l : LineState). l.is_whole) after ∙ opened_open s.lines.is_whole s.lines refl) (ap (λ (l : LineState). l.line) after) lines (sym h.held) h.place in
    record {
      stops = λ typed more failed follow.
          stops_before typed old s h.piece more failed h.held h.place h.controls
          ∙ stops typed s more failed Bytes w limit
          ∙ ap (λ n. only_stop (Some (record { line = n + 1; cause = Bytes }))) (sym lines)
          ∙ sym (ap (λ (t : StreamState). given_yet typed t more failed) g);
      ended = ap (λ (t : StreamState). is_reading t.stage) g;
      fine = subst (λ (t : StreamState). IsFine t.stage) (sym g) tt;
      txs = ap (λ (t : StreamState). t.txs) g ∙ h.txs;
      controls = ap (λ (t : StreamState). t.controls) g ∙ h.controls;
      reached = sym (ap reach_of g);
      kept = leaves.kept;
      lines = leaves.lines;
      up_to_stop = leaves.up_to_stop;
    }

-- a read failed behind what was held
pub came_fault : (old s new : StreamState) (left left' : Option (List ℕ)) (h : HasMore old s left left') → IsSound s → s.lines.over ≡ None → s.rest ≡ [] → new ≡ stopped_at (record s { lines = opened s.lines }) (opened s.lines) Read → HasStop reach.Failed old new (held_of old ++ h.piece)
came_fault old s new left left' h w e none g =
    let line = came_last old s (record s { lines = opened s.lines }) left left' h w e none refl in
    let limit = none_passed (at_line old line.line line.rest false).lines line.within in
    let leaves = stop_leaves old s new (opened s.lines) Read (held_of old ++ h.piece) g (opened_open s.lines.is_whole s.lines refl) refl refl (sym h.held) h.place in
    record {
      stops = λ typed more failed follow.
          ap (λ m. said_from typed old.controls (place_of old) (lines_of ((held_of old ++ h.piece) ++ m)) failed) follow.0
          ∙ ap (λ f. said_from typed old.controls (place_of old) (lines_of ((held_of old ++ h.piece) ++ [])) f) follow.1
          ∙ ap (λ bytes. said_from typed old.controls (place_of old) (lines_of bytes) true) (append-nil (held_of old ++ h.piece) ∙ line.bytes_are ∙ append-nil line.line)
          ∙ said_last typed old.controls (place_of old) line.line true line.within.plain
          ∙ ap (λ o. said_with (place_of old) (unless_passed o (Err Read)) (λ saying. nothing_said)) limit
          ∙ ap (λ n. only_stop (Some (record { line = n + 1; cause = Read }))) (sym (ap (λ (p : Place). p.lines) h.place))
          ∙ sym (ap (λ (t : StreamState). given_yet typed t more failed) g);
      ended = ap (λ (t : StreamState). is_reading t.stage) g;
      fine = subst (λ (t : StreamState). IsFine t.stage) (sym g) tt;
      txs = ap (λ (t : StreamState). t.txs) g ∙ h.txs;
      controls = ap (λ (t : StreamState). t.controls) g ∙ h.controls;
      reached = sym (ap reach_of g);
      kept = leaves.kept;
      lines = leaves.lines;
      up_to_stop = leaves.up_to_stop;
    }

-- whichever limit was passed
pub came_stop : (old s new : StreamState) (left left' : Option (List ℕ)) (answer : Fed) (h : HasMore old s left left') → IsSound s → s.lines.over ≡ None → (answer ≡ fed.More → ⊥) → ((taken : ℕ) → answer ≡ fed.Line taken → ⊥) → answer ≡ answer_to s.lines s.rest → new ≡ state_fed s answer → HasStop reach.Open old new (held_of old ++ h.piece)
came_stop old s new left left' fed.More h w e more line f g = absurd (more refl)
came_stop old s new left left' (fed.Line taken) h w e more line f g = absurd (line taken refl)
came_stop old s new left left' (fed.Long taken) h w e more line f g = came_long old s new left left' taken h w e (sym f) g
came_stop old s new left left' (fed.Bytes taken) h w e more line f g = came_bytes old s new left left' taken h w e (sym f) g

-- a reader before the first byte is sound
pub first_sound : (controls : Bool) (have : ℕ) → have ≤ MAX_TRANSACTIONS → IsSound (first_state controls have)
first_sound controls have h = record {
  within = record { small_line = omega arith; small_stream = omega arith; lines = omega arith; line = omega arith; bytes = omega arith; plain = All-nil (λ byte. is_lf byte ≡ false) };
  most_line = refl;
  most_bytes = refl;
  rest = omega arith;
  txs = h;
  over = λ reading. refl;
}
