use Rattle.ecf_faults.specs.Declarations.{const_report}
use Rattle.ecf_typing.specs.Views.{view_of}
use Rattle.ecf_typing.proofs.InitialLaws.{keys_more}
use Rattle.ecf_typing.proofs.initial.note_keys.Goals as goal

pub loop-key-preserved : goal.loop-key-preserved
loop-key-preserved c =
    keys_more c.args.ty (λ pair. const_report (view_of c.args.around.now).objects pair.0) c.args.first.now c.loop-key.key-index c.loop-key-item.result c.loop-key.earlier.keys _ c.loop-key.faults.first _ _ c.loop-key.invariant c.loop-key-test.true c.loop-key-item.is c.in_ok-note_key.ensures.faults c.in_ok-note_key.ensures.earlier
