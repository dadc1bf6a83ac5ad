use Rattle.std.proofs.Common.{[], ap, ◌∙◌, List}
use Rattle.std.specs.List.{fold, filter_map, flat_map}
use Rattle.ecf_lang.specs.declared.tree.ObjectDecl.{ObjectDecl}
use Rattle.ecf_faults.specs.Tables.{with_next}
use Rattle.ecf_faults.specs.Declarations.{method_signature}
use Rattle.ecf_typing.proofs.LoopLaws.{at_end}
use Rattle.ecf_typing.proofs.DeclarationLaws.{members_more}
use Rattle.ecf_typing.proofs.declaration.signatures.Goals as goal

pub loop-object-preserved : goal.loop-object-preserved
loop-object-preserved c =
    members_more method_signature (λ object. object.members) c.as_slice-object-items.result.now c.loop-object.object-index c.object-item.result [] _ _ c.loop-object.invariant c.loop-object-test.true c.object-item.is (rw c.as_slice.ensures at c.in_ok-declare_methods.ensures)

pub returns : goal.returns
returns c =
    at_end (λ (objects : List ObjectDecl). fold with_next [] (filter_map method_signature (flat_map (λ object. object.members) objects))) c.as_slice-object-items.result.now c.loop-object.object-index _ c.loop-object.invariant c.loop-object-test.false
    ∙ ap (λ (objects : List ObjectDecl). fold with_next [] (filter_map method_signature (flat_map (λ object. object.members) objects))) c.as_slice-object-items.ensures
