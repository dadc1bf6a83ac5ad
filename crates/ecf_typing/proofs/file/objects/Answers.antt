use Rattle.std.proofs.Common.{List, map, ap, ◌∙◌}
use Rattle.std.specs.List.{flat_map}
use Rattle.ecf_lang.specs.declared.tree.ObjectDecl.{ObjectDecl}
use Rattle.ecf_faults.specs.Tables.{Surroundings}
use Rattle.ecf_faults.specs.Declarations.{surroundings_of, object_form, object_faults}
use Rattle.ecf_faults.specs.Least.{least_with}
use Rattle.ecf_typing.specs.Views.{view_of}
use Rattle.ecf_typing.proofs.LoopLaws.{made_more, noted_more, at_end}
use Rattle.ecf_typing.proofs.FileLaws.{surroundings_are}
use Rattle.ecf_typing.proofs.file.objects.Goals as goal

pub loop-declared-preserved : goal.loop-declared-preserved
loop-declared-preserved c =
    let tree = c.args.tree.now in
    let items = c.as_slice-declared-items.result.now in
    let i = c.loop-declared.declared-index in
    let x = c.declared-item.result in
    let same = surroundings_are c.args.tree.now (view_of c.loop-declared.around) c.declared-item.result c.loop-declared.invariant.objects c.loop-declared.invariant.signatures in
    record {
      objects = ap (λ (s : Surroundings). s.objects) c.in_ok-object.ensures.around ∙ c.loop-declared.invariant.objects;
      signatures = ap (λ (s : Surroundings). s.signatures) c.in_ok-object.ensures.around ∙ c.loop-declared.invariant.signatures;
      form = made_more (λ object. object_form (surroundings_of tree object) object) items i x _ _ _ c.loop-declared.invariant.form c.loop-declared-test.true c.declared-item.is c.in_ok-push.ensures.ok (c.in_ok-object.ensures.form ∙ ap (λ (s : Surroundings). object_form s x) same);
      faults = noted_more (λ object. object_faults (surroundings_of tree object) object.members) items i x c.args.faults.now.first _ _ c.loop-declared.invariant.faults c.loop-declared-test.true c.declared-item.is (c.in_ok-object.ensures.faults ∙ ap (λ (s : Surroundings). least_with c.loop-declared.faults.first (object_faults s x.members)) same);
    }

pub returns-clause-form : goal.returns-clause-form
returns-clause-form c =
    at_end (λ (objects : List ObjectDecl). map (λ object. object_form (surroundings_of c.args.tree.now object) object) objects) c.as_slice-declared-items.result.now c.loop-declared.declared-index _ c.loop-declared.invariant.form c.loop-declared-test.false
    ∙ ap (λ (objects : List ObjectDecl). map (λ object. object_form (surroundings_of c.args.tree.now object) object) objects) c.as_slice-declared-items.ensures

pub returns-clause-faults : goal.returns-clause-faults
returns-clause-faults c =
    at_end (λ (objects : List ObjectDecl). least_with c.args.faults.now.first (flat_map (λ object. object_faults (surroundings_of c.args.tree.now object) object.members) objects)) c.as_slice-declared-items.result.now c.loop-declared.declared-index _ c.loop-declared.invariant.faults c.loop-declared-test.false
    ∙ ap (λ (objects : List ObjectDecl). least_with c.args.faults.now.first (flat_map (λ object. object_faults (surroundings_of c.args.tree.now object) object.members) objects)) c.as_slice-declared-items.ensures
