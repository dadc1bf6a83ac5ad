use Rattle.std.specs.List.{fold, filter_map}
use Rattle.ecf_faults.specs.Tables.{with_next}
use Rattle.ecf_faults.specs.Declarations.{method_signature}
use Rattle.ecf_typing.specs.Views.{signatures_of}
use Rattle.ecf_typing.proofs.LoopLaws.{at_end}
use Rattle.ecf_typing.proofs.DeclarationLaws.{table_more}
use Rattle.ecf_typing.proofs.declaration.declare_methods.Goals as goal

pub loop-member-preserved : goal.loop-member-preserved
loop-member-preserved c =
    table_more method_signature c.args.members.now c.loop-member.member-index c.member-item.result (signatures_of c.args.table.now) _ _ c.loop-member.invariant c.loop-member-test.true c.member-item.is c.in_ok-declare_method.ensures

pub returns : goal.returns
returns c = at_end (λ members. fold with_next (signatures_of c.args.table.now) (filter_map method_signature members)) c.args.members.now c.loop-member.member-index _ c.loop-member.invariant c.loop-member-test.false
