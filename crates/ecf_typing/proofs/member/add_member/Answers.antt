use Rattle.std.proofs.Common.{ℕ, ap, sym, ◌∙◌}
use Rattle.std.specs.Option.{option_map}
use Rattle.ecf_lang.specs.declared.tree.Member.{Member}
use Rattle.ecf_lang.specs.declared.typed.TypedBlock.{TypedBlock}
use Rattle.ecf_faults.specs.Declarations.{field_form, member_faults}
use Rattle.ecf_faults.specs.Least.{least_with}
use Rattle.ecf_typing.specs.Views.{signature_view, view_of}
use Rattle.ecf_typing.proofs.ExpressionLaws.{found_seen}
use Rattle.ecf_typing.proofs.MemberLaws.{one_form, method_made, method_noted}
use Rattle.ecf_typing.proofs.member.add_member.Goals as goal

pub returns-in_ok-push-in-Field-clause-fields : goal.returns-in_ok-push-in-Field-clause-fields
returns-in_ok-push-in-Field-clause-fields c =
    one_form (field_form (view_of c.args.around.now)) c.args.member.now _ _ _ _ c.in-Field.is (c.in_ok-field-in-Field.ensures.form c.in-Field.at) c.in_ok-push-in-Field.ensures.ok

pub returns-in_ok-push-in-Field-clause-faults : goal.returns-in_ok-push-in-Field-clause-faults
returns-in_ok-push-in-Field-clause-faults c =
    c.in_ok-field-in-Field.ensures.faults c.in-Field.at ∙ ap (λ (m : Member). least_with c.args.faults.now.first (member_faults (view_of c.args.around.now) m)) (sym c.in-Field.is)

pub returns-in_ok-push-in-Map-clause-fields : goal.returns-in_ok-push-in-Map-clause-fields
returns-in_ok-push-in-Map-clause-fields c =
    let form = rw c.as_slice.ensures at (c.in_ok-field-in-Map.ensures.form c.in-Map.at) in
    one_form (field_form (view_of c.args.around.now)) c.args.member.now _ _ _ _ c.in-Map.is form c.in_ok-push-in-Map.ensures.ok

pub returns-in_ok-push-in-Map-clause-faults : goal.returns-in_ok-push-in-Map-clause-faults
returns-in_ok-push-in-Map-clause-faults c =
    let noted = rw c.as_slice.ensures at (c.in_ok-field-in-Map.ensures.faults c.in-Map.at) in
    noted ∙ ap (λ (m : Member). least_with c.args.faults.now.first (member_faults (view_of c.args.around.now) m)) (sym c.in-Map.is)

pub returns-in_ok-push-in-Method-clause-methods : goal.returns-in_ok-push-in-Method-clause-methods
returns-in_ok-push-in-Method-clause-methods c =
    let types = ap (option_map signature_view) (rw c.as_bytes.ensures at c.get-types.ensures) ∙ sym (found_seen signature_view _ c.in-Method.name) in
    let made : ℕ × TypedBlock = (c.in_ok-locals-in-Method.locals, c.in_ok-locals-in-Method.body) in
    let made_is = rw c.as_slice-in-Method-2.ensures at c.in_ok-locals-in-Method.ensures.form in
    method_made (view_of c.args.around.now) c.args.member.now c.in-Method.at c.in-Method.name c.in-Method.params c.in-Method.answer c.in-Method.block (option_map signature_view c.get-types.result) c.method_number.result made _ _ c.in-Method.is types c.method_number.ensures made_is c.in_ok-push-in-Method.ensures.ok

pub returns-in_ok-push-in-Method-clause-faults : goal.returns-in_ok-push-in-Method-clause-faults
returns-in_ok-push-in-Method-clause-faults c =
    let types = ap (option_map signature_view) (rw c.as_bytes.ensures at c.get-types.ensures) ∙ sym (found_seen signature_view _ c.in-Method.name) in
    let first = rw c.as_slice-in-Method.ensures at c.note_signature.ensures in
    let rest = rw c.as_slice-in-Method-2.ensures at c.in_ok-locals-in-Method.ensures.faults in
    method_noted (view_of c.args.around.now) c.args.member.now c.in-Method.at c.in-Method.name c.in-Method.params c.in-Method.answer c.in-Method.block (option_map signature_view c.get-types.result) _ _ _ c.in-Method.is types first rest
