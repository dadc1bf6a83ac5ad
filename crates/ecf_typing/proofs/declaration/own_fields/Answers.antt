use Rattle.std.proofs.Common.{[]}
use Rattle.std.specs.List.{fold, filter_map}
use Rattle.ecf_faults.specs.Tables.{with_next}
use Rattle.ecf_faults.specs.Declarations.{field_kind}
use Rattle.ecf_typing.proofs.LoopLaws.{at_end}
use Rattle.ecf_typing.proofs.DeclarationLaws.{table_more}
use Rattle.ecf_typing.proofs.declaration.own_fields.Goals as goal

pub loop-member-preserved : goal.loop-member-preserved
loop-member-preserved c =
    table_more field_kind c.args.members.now c.loop-member.member-index c.member-item.result [] _ _ c.loop-member.invariant c.loop-member-test.true c.member-item.is c.in_ok-declare_field.ensures

pub returns : goal.returns
returns c = at_end (λ members. fold with_next [] (filter_map field_kind members)) c.args.members.now c.loop-member.member-index _ c.loop-member.invariant c.loop-member-test.false
