use Rattle.std.proofs.Common.{◌≡◌, ◌≤◌, ◌+◌, ◌-◌, List, ℕ, None, Some, length, refl, sym, ap, subst, ◌∙◌, arith}
use Rattle.std.specs.Prelude.{slice_range}
use Rattle.ecf_stream.specs.declared.stream_reader.Stage.TheVariants as stage
use Rattle.ecf_stream.specs.declared.stream_reader.TheConstants.{READ_BYTES}
use Rattle.ecf_stream.specs.LineState.{answer_to, state_after}
use Rattle.ecf_stream.specs.StreamState.{stop_at}
use Rattle.ecf_stream.proofs.StateLaws.{sound_fed, fed_more, fed_line, fed_long, fed_bytes, none_after_more, none_after_line, taken_within, length_range, none_left, later_range}
use Rattle.ecf_stream.proofs.stream_reader.StreamReader.feed_rest.Goals as goal

pub returns-in-More-clause-answer : goal.returns-in-More-clause-answer
returns-in-More-clause-answer c = rw (← c.self.view_is) (rw c.deref.ensures.value at c.feed-fed.ensures.answer)

pub returns-in-More-clause-after : goal.returns-in-More-clause-after
returns-in-More-clause-after c =
    let i = c.self.inside in
    rw (← c.self.view_is, c.in-More.is)
    (fed_more i.controls i.lines c.feed-fed.new.self (slice_range i.buffer.items i.from i.to) (slice_range i.buffer.items i.to i.to) i.txs i.stage (rw c.deref.ensures.value at c.feed-fed.ensures.after) (none_left i.buffer.items i.to))

pub returns-in-Line-clause-answer : goal.returns-in-Line-clause-answer
returns-in-Line-clause-answer c = rw (← c.self.view_is) (sym c.in-Line.is ∙ (rw c.deref.ensures.value at c.feed-fed.ensures.answer))

pub returns-in-Line-clause-after : goal.returns-in-Line-clause-after
returns-in-Line-clause-after c =
    let i = c.self.inside in
    rw (← c.self.view_is)
    (fed_line i.controls i.lines c.feed-fed.new.self (slice_range i.buffer.items i.from i.to) (slice_range i.buffer.items (i.from + c.in-Line.taken) i.to) i.txs c.in-Line.taken i.stage (rw c.deref.ensures.value at c.feed-fed.ensures.after) (later_range i.buffer.items i.from i.to c.in-Line.taken))

pub returns-in-Long-clause-answer : goal.returns-in-Long-clause-answer
returns-in-Long-clause-answer c = rw (← c.self.view_is) (rw c.deref.ensures.value at c.feed-fed.ensures.answer)

pub returns-in-Bytes-clause-answer : goal.returns-in-Bytes-clause-answer
returns-in-Bytes-clause-answer c = rw (← c.self.view_is) (rw c.deref.ensures.value at c.feed-fed.ensures.answer)
