use Rattle.std.proofs.Common.{ap, ◌∙◌}
use Rattle.ecf_faults.specs.Tables.{Surroundings}
use Rattle.ecf_faults.specs.Declarations.{object_form}
use Rattle.ecf_typing.specs.Views.{view_of}
use Rattle.ecf_typing.proofs.LoopLaws.{if_ok_then, on_ok_then, on_ok}
use Rattle.ecf_typing.proofs.FileLaws.{now_within, object_noted}
use Rattle.ecf_typing.proofs.member.object.Goals as goal

pub returns-clause-form : goal.returns-clause-form
returns-clause-form c =
    let own = rw c.as_slice-2.ensures at c.in_ok-own.ensures in
    let methods = rw c.as_slice.ensures at c.in_ok-methods.ensures.methods in
    let is = now_within (view_of c.args.around.now) c.args.object.now _ _ own methods in
    if_ok_then c.members.result _ _ c.members.ensures.form (λ made was. was ∙ ap (λ (s : Surroundings). object_form s c.args.object.now) is)

pub returns-clause-faults : goal.returns-clause-faults
returns-clause-faults c =
    let own = rw c.as_slice-2.ensures at c.in_ok-own.ensures in
    let methods = rw c.as_slice.ensures at c.in_ok-methods.ensures.methods in
    let is = now_within (view_of c.args.around.now) c.args.object.now _ _ own methods in
    let declared = rw c.as_slice.ensures at c.in_ok-methods.ensures.faults in
    on_ok_then c.members.result _ _ c.members.ensures.faults (λ noted. object_noted _ _ c.args.object.now.members _ _ _ is declared noted)

pub returns-clause-around : goal.returns-clause-around
returns-clause-around c =
    let own = rw c.as_slice-2.ensures at c.in_ok-own.ensures in
    let methods = rw c.as_slice.ensures at c.in_ok-methods.ensures.methods in
    on_ok c.members.result _ (now_within (view_of c.args.around.now) c.args.object.now _ _ own methods)
