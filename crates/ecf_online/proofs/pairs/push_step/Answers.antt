use Rattle.std.proofs.Common.{◌++◌, sym, ap, ◌∙◌}
use Rattle.ecf_online.specs.Reads.{readers_of}
use Rattle.ecf_online.proofs.PairLaws.{pairs_of_read}
use Rattle.ecf_online.proofs.pairs.push_step.Goals as goal

pub returns-else-write-clause-pairs : goal.returns-else-write-clause-pairs
returns-else-write-clause-pairs c =
    let watch = c.args.watch.now in
    c.push_writer.ensures.pairs ∙ ap (λ l. c.args.pairs.now.items ++ l) (sym (pairs_of_read watch.writer (readers_of c.args.reads.now watch) c.args.j c.args.write c.if-write.false))
