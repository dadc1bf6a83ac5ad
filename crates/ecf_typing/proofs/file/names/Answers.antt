use Rattle.std.proofs.Common.{ℕ, List, arith}
use Rattle.ecf_typing.specs.declared.reference.MethodTypes.{MethodTypes}
use Rattle.ecf_typing.specs.Views.{contents_of}
use Rattle.ecf_typing.proofs.LoopLaws.{made_at}
use Rattle.ecf_typing.proofs.file.names.Goals as goal

pub loop-i-preserved : goal.loop-i-preserved
loop-i-preserved c =
    let x : List ℕ × MethodTypes = (c.at-entry.result.0.now, c.at-entry.result.1) in
    made_at (λ (one : List ℕ × MethodTypes). one.0) (contents_of c.args.table.now) c.loop-i.i x _ _ _ c.loop-i.invariant c.at-entry.ensures (omega arith) c.in_ok-push.ensures.ok c.in_ok-from_slice.ensures
