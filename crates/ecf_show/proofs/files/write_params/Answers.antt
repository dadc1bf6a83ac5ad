use Rattle.std.proofs.Common.{◌-◌, ◌++◌, length, take, drop, arith}
use Rattle.ecf_show.specs.Marks.{comma}
use Rattle.ecf_show.specs.Files.{param_marks}
use Rattle.ecf_show.proofs.TextLaws.{item_written, wrote_then}
use Rattle.ecf_show.proofs.ExpressionLaws.{list_written}
use Rattle.ecf_show.proofs.files.write_params.Goals as goal

pub loop-param-preserved : goal.loop-param-preserved
loop-param-preserved c =
    item_written (λ param. comma ++ param_marks param) (take (length c.args.params.now - 1) (drop 1 c.args.params.now)) c.loop-param.param-index c.param-item.result _ _ _ c.loop-param.invariant c.loop-param-test.true c.param-item.is
    (wrote_then _ _ _ comma (param_marks c.param-item.result) c.in_ok-extend_from_slice.ensures.items c.in_ok-write_declared-2.ensures)

pub returns : goal.returns
returns c =
    list_written comma param_marks c.args.params.now c.first-item.result c.loop-param.param-index _ _ _ (omega (arith, c.in-len1-up.len_at_least)) c.first-item.is c.in_ok-write_declared.ensures c.loop-param.invariant c.loop-param-test.false
