use Rattle.std.proofs.Common.{[]}
use Rattle.std.specs.List.{fold, filter_map}
use Rattle.ecf_faults.specs.Tables.{with_next}
use Rattle.ecf_faults.specs.Declarations.{repeat_faults}
use Rattle.ecf_faults.specs.Least.{least_with}
use Rattle.ecf_typing.specs.Sorts.{declaration_in}
use Rattle.ecf_typing.proofs.LoopLaws.{at_end}
use Rattle.ecf_typing.proofs.DeclarationLaws.{table_more, repeats_more}
use Rattle.ecf_typing.proofs.declaration.note_members.Goals as goal

pub loop-member-preserved : goal.loop-member-preserved
loop-member-preserved c =
    let members = c.args.members.now in
    let i = c.loop-member.member-index in
    record {
      table = table_more (declaration_in c.args.sort) members i c.member-item.result [] _ _ c.loop-member.invariant.table c.loop-member-test.true c.member-item.is c.in_ok-note_member.ensures.table;
      faults = repeats_more c.args.what (declaration_in c.args.sort) members i c.member-item.result [] _ c.args.faults.now.first _ _ c.loop-member.invariant.table c.loop-member.invariant.faults c.loop-member-test.true c.member-item.is c.in_ok-note_member.ensures.faults;
    }

pub returns-clause-table : goal.returns-clause-table
returns-clause-table c = at_end (λ members. fold with_next [] (filter_map (declaration_in c.args.sort) members)) c.args.members.now c.loop-member.member-index _ c.loop-member.invariant.table c.loop-member-test.false

pub returns-clause-faults : goal.returns-clause-faults
returns-clause-faults c =
    at_end (λ members. least_with c.args.faults.now.first (repeat_faults c.args.what [] (filter_map (declaration_in c.args.sort) members))) c.args.members.now c.loop-member.member-index _ c.loop-member.invariant.faults c.loop-member-test.false
