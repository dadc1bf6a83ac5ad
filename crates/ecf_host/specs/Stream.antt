-- The stage of a stream: it is read to its end or to the first stop.
use Rattle.std.specs.Prelude.{◌≡◌, ◌≢◌, ℕ, true, false, List, length, Option, Some, None, IfSome, Ok, Err}
use Rattle.std.specs.Option.{IsSomeAnd}
use Rattle.ecf_lang.specs.declared.receipt.Stop.{Stop}
use Rattle.ecf_lang.specs.declared.receipt.StopCause.TheVariants.{Long, Bytes, Read}
use Rattle.ecf_lang.specs.declared.typed.Typed.{Typed}
use Rattle.ecf_edge.specs.Count.{counted_up}
use Rattle.ecf_edge.specs.Source.{Gave, GaveSome, IsAtEnd}
use Rattle.ecf_lines.specs.Stream.{StreamSaid, lines_of, stream_said}
use Rattle.ecf_host.specs.Stages.{Stage}
use Rattle.ecf_host.specs.World.{SourceState}

-- the stop says that a read failed
abbrev pub IsReadFault : Option Stop → Type 0
IsReadFault stop = IsSomeAnd stop (λ s. s.cause ≡ Read)

-- Reading these bytes comes to their end: there is no stop, or one for the form of the last line, which no LF ended, and for no limit.
abbrev pub ReadsToEnd : List ℕ → Option Stop → Type 0
ReadsToEnd bytes None = Unit {0}
ReadsToEnd bytes (Some stop) = (stop.line ≡ length (lines_of bytes)) × (stop.cause ≢ Long) × (stop.cause ≢ Bytes)

-- no read failed: what was read is what the bytes of the stream say, all of them
pub record IsReadOn (typed : Typed) (before after : SourceState) (said : StreamSaid) : Type 0 where
  pub bytes : List ℕ
  pub told : IfSome before.left (λ left. left ≡ bytes)
  pub says : said ≡ stream_said typed false 0 bytes false
  pub gave : GaveSome before.left after.left
  pub at_end : ReadsToEnd bytes said.stop → IsAtEnd after.left
  pub no_fault : ¬ IsReadFault said.stop
  pub faults : after.faults ≡ before.faults

-- one read failed: what was read is what the bytes before it say, and the stop tells the failed read
pub record IsCutOff (typed : Typed) (before after : SourceState) (said : StreamSaid) : Type 0 where
  pub bytes : List ℕ
  pub gave : Gave before.left bytes after.left
  pub says : said ≡ stream_said typed false 0 bytes true
  pub fault : IsReadFault said.stop
  pub faults : after.faults ≡ counted_up before.faults

-- the transactions of a stream up to its end or its first stop, and that stop
pub data IsStream (typed : Typed) (before after : SourceState) (said : StreamSaid) : Type 0 where
  read_on : IsReadOn typed before after said → IsStream typed before after said
  cut_off : IsCutOff typed before after said → IsStream typed before after said

-- streamed: what the stream says; a stop is no refusal
abbrev pub streamed : Typed → SourceState → SourceState → Stage StreamSaid
streamed typed before after (Ok said) = IsStream typed before after said
streamed typed before after (Err refusal) = ⊥
