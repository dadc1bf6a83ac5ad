use Rattle.std.proofs.Common.{None, refl}
use Rattle.std.proofs.lemmas.Slice.Zip.{either_empty_from_Zip}
use Rattle.ecf_receipts.proofs.ArgumentLaws.{all_written}
use Rattle.ecf_receipts.proofs.words.write_arguments.Goals as goal

pub returns : goal.returns
returns c =
    all_written c.args.typed.now _ _ _ _ (either_empty_from_Zip c.loop-ty.ty-iterator c.next.new.self None refl c.in-None.ensures.steps) c.loop-ty.invariant
