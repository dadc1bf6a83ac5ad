use Rattle.std.proofs.Common.{◌≡◌, ◌≤◌, ◌<◌, ◌+◌, None, length, refl, sym, ap, ◌∙◌, arith}
use Rattle.ecf_edge.specs.Count.{counted_up}
use Rattle.ecf_lang.specs.declared.limits.TheConstants.{MAX_STREAM_BYTES}
use Rattle.ecf_lang.specs.declared.receipt.StopCause.TheVariants.{Read}
use Rattle.ecf_stream.specs.declared.stream_reader.Reach.TheVariants as reach
use Rattle.ecf_stream.specs.StreamState.{StreamState, stopped_at}
use Rattle.ecf_stream.proofs.ReadLaws.{filled, went_on, came_line, came_last, came_stop, came_fault, taken_grows, taken_bounded, bytes_taken}
use Rattle.ecf_stream.proofs.stream_reader.StreamReader.next_line.Goals as goal

pub pieces-preserved : goal.pieces-preserved
pieces-preserved g c =
    let s = c.fill.new.self in
    let h = filled c.args.self.now c.pieces.self s _ _ _ c.pieces.invariant.more c.fill.ensures.state c.fill.ensures.gave in
    record {
      more = went_on c.args.self.now s c.feed_rest.new.self _ _ h (c.fill.ensures.sound.over h.going) (sym c.in-More.ensures.answer) c.in-More.ensures.after;
      no_fault = c.in-Open.ensures.counted ∙ c.pieces.invariant.no_fault;
    }

pub pieces-smaller : goal.pieces-smaller
pieces-smaller g c =
    let s = c.fill.new.self in
    let h = filled c.args.self.now c.pieces.self s _ _ _ c.pieces.invariant.more c.fill.ensures.state c.fill.ensures.gave in
    let grows = taken_grows s c.feed_rest.new.self (c.fill.ensures.sound.over h.going) (sym c.in-More.ensures.answer) c.in-More.ensures.after in
    let same : bytes_taken s ≡ bytes_taken c.pieces.self = ap bytes_taken c.fill.ensures.state in
    let some : 0 < length s.rest = c.in-Open.ensures.rest in
    let most : bytes_taken c.feed_rest.new.self ≤ MAX_STREAM_BYTES = taken_bounded c.feed_rest.new.self c.feed_rest.ensures.sound in
    omega (arith, grows, same, some, most)

pub returns-in-Line : goal.returns-in-Line
returns-in-Line g c =
    let s = c.fill.new.self in
    let h = filled c.args.self.now c.pieces.self s _ _ _ c.pieces.invariant.more c.fill.ensures.state c.fill.ensures.gave in
    record {
      piece = h.piece;
      far = reach.Open;
      gave = h.gave;
      end = tt;
      counted = c.in-Open.ensures.counted ∙ c.pieces.invariant.no_fault;
      comes = (came_line c.args.self.now s c.feed_rest.new.self _ _ c.in-Line.taken h c.fill.ensures.sound (c.fill.ensures.sound.over h.going) (sym c.in-Line.ensures.answer) c.in-Line.ensures.after c.in-Line.ensures.sound, refl);
    }

pub returns-in_default : goal.returns-in_default
returns-in_default g c =
    let s = c.fill.new.self in
    let h = filled c.args.self.now c.pieces.self s _ _ _ c.pieces.invariant.more c.fill.ensures.state c.fill.ensures.gave in
    record {
      piece = h.piece;
      far = reach.Open;
      gave = h.gave;
      end = tt;
      counted = c.in-Open.ensures.counted ∙ c.pieces.invariant.no_fault;
      comes = came_stop c.args.self.now s c.feed_rest.new.self _ _ c.feed_rest.result h c.fill.ensures.sound (c.fill.ensures.sound.over h.going) c.in_default.not-More c.in_default.not-Line c.feed_rest.ensures.answer c.feed_rest.ensures.after;
    }

pub returns-in-AtEnd : goal.returns-in-AtEnd
returns-in-AtEnd g c =
    let s = c.fill.new.self in
    let h = filled c.args.self.now c.pieces.self s _ _ _ c.pieces.invariant.more c.fill.ensures.state c.fill.ensures.gave in
    record {
      piece = h.piece;
      far = reach.AtEnd;
      gave = h.gave;
      end = c.in-AtEnd.ensures.end;
      counted = c.in-AtEnd.ensures.counted ∙ c.pieces.invariant.no_fault;
      comes = (came_last c.args.self.now s c.begin_last.new.self _ _ h c.fill.ensures.sound (c.fill.ensures.sound.over h.going) c.in-AtEnd.ensures.rest c.begin_last.ensures, refl);
    }

pub returns-in-Failed : goal.returns-in-Failed
returns-in-Failed g c =
    let s = c.fill.new.self in
    let h = filled c.args.self.now c.pieces.self s _ _ _ c.pieces.invariant.more c.fill.ensures.state c.fill.ensures.gave in
    record {
      piece = h.piece;
      far = reach.Failed;
      gave = h.gave;
      end = tt;
      counted = c.in-Failed.ensures.counted ∙ ap counted_up c.pieces.invariant.no_fault;
      comes = came_fault c.args.self.now s c.stop.new.self _ _ h c.fill.ensures.sound (c.fill.ensures.sound.over h.going) c.in-Failed.ensures.rest (c.stop.ensures ∙ ap (λ (t : StreamState). stopped_at t t.lines Read) c.begin_last-in-Failed.ensures);
    }
