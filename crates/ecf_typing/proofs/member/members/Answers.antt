use Rattle.std.proofs.Common.{List, ap, ◌∙◌}
use Rattle.std.specs.List.{flat_map}
use Rattle.ecf_lang.specs.declared.tree.Member.{Member}
use Rattle.ecf_faults.specs.Declarations.{field_form, method_form, member_faults}
use Rattle.ecf_faults.specs.Least.{least_with}
use Rattle.ecf_typing.specs.Views.{view_of}
use Rattle.ecf_typing.proofs.LoopLaws.{noted_more, at_end}
use Rattle.ecf_typing.proofs.MemberLaws.{members_more, object_made}
use Rattle.ecf_typing.proofs.member.members.Goals as goal

pub loop-member-preserved : goal.loop-member-preserved
loop-member-preserved c =
    let around = view_of c.args.around.now in
    let members = c.as_slice-member-items.result.now in
    let i = c.loop-member.member-index in
    record {
      name = c.in_ok-add_member.ensures.name ∙ c.loop-member.invariant.name;
      fields = members_more (field_form around) members i c.member-item.result _ _ c.loop-member.invariant.fields c.loop-member-test.true c.member-item.is c.in_ok-add_member.ensures.fields;
      methods = members_more (method_form around) members i c.member-item.result _ _ c.loop-member.invariant.methods c.loop-member-test.true c.member-item.is c.in_ok-add_member.ensures.methods;
      faults = noted_more (member_faults around) members i c.member-item.result c.args.faults.now.first _ _ c.loop-member.invariant.faults c.loop-member-test.true c.member-item.is c.in_ok-add_member.ensures.faults;
    }

pub returns-clause-form : goal.returns-clause-form
returns-clause-form c =
    object_made (view_of c.args.around.now) c.args.object.now c.as_slice-member-items.result.now c.loop-member.member-index c.loop-member.made c.as_slice-member-items.ensures c.loop-member.invariant.name c.loop-member.invariant.fields c.loop-member.invariant.methods c.loop-member-test.false

pub returns-clause-faults : goal.returns-clause-faults
returns-clause-faults c =
    at_end (λ (members : List Member). least_with c.args.faults.now.first (flat_map (member_faults (view_of c.args.around.now)) members)) c.as_slice-member-items.result.now c.loop-member.member-index _ c.loop-member.invariant.faults c.loop-member-test.false
    ∙ ap (λ (members : List Member). least_with c.args.faults.now.first (flat_map (member_faults (view_of c.args.around.now)) members)) c.as_slice-member-items.ensures
