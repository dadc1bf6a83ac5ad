use Rattle.std.proofs.Common.{◌≡◌, [], sym, subst, length, arith}
use Rattle.ecf_stream.specs.declared.stream_reader.Stage.TheVariants as stage
use Rattle.ecf_stream.specs.StreamState.{IsSound}
use Rattle.ecf_stream.proofs.ReadLaws.{first_sound}
use Rattle.ecf_stream.proofs.StateLaws.{state}
use Rattle.ecf_stream.proofs.stream_reader.StreamReader.reading.Goals as goal

pub invariant_of-result : goal.invariant_of-result
invariant_of-result c =
    let count = c.in_ok-buffer.ensures.len in (
      subst (λ lines. IsSound (state c.args.controls lines [] c.args.have stage.Reading)) (sym c.in_ok-lines.ensures) (first_sound c.args.controls c.args.have c.requires),
      record { order = omega arith; within = omega arith; room = omega (arith, count) },
    )
