use Rattle.std.proofs.Common.{◌-◌, ◌∙◌, ap, arith}
use Rattle.ecf_lang.specs.Store.{find_cell}
use Rattle.ecf_progress.proofs.ReadLaws.{FindAlike-before}
use Rattle.ecf_progress.proofs.reads.put_all.Goals as goal

pub loop-left-preserved : goal.loop-left-preserved
loop-left-preserved c =
    (omega arith, λ q. ap (λ l. find_cell l q) c.in_ok-insert.ensures.entries ∙ FindAlike-before _ c.args.pairs.now c.loop-left.left (c.loop-left.left - 1) _ (omega arith) (omega arith) c.loop-left.invariant.1 q)
