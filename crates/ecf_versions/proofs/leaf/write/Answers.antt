-- A cell that is there is changed or taken out, and one that isn't is put in or stays out.
use Rattle.std.proofs.Common.{arith, ◌≡◌, ◌<◌, ◌∙◌, ap, subst, set}
use Rattle.std.specs.Map.{keys_of}
use Rattle.ecf_lang.specs.Store.{Cells, put}
use Rattle.ecf_versions.specs.Places.{IsFound, IsGap}
use Rattle.ecf_versions.proofs.LeafLaws.{removed, changed, added, unchanged, found_within}
use Rattle.ecf_versions.proofs.leaf.write.Goals as goal

pub returns-then-value-eq0 : goal.returns-then-value-eq0
returns-then-value-eq0 c =
    let found : IsFound (keys_of c.args.items.items) c.args.cell c.in-Ok.at = subst (λ (l : Cells). IsFound (keys_of l) c.args.cell c.in-Ok.at) c.as_slice.ensures.value c.in-Ok.ensures in
    let none : 0 ≡ c.args.value = omega arith in
    c.remove.ensures.items ∙ removed c.args.items.items c.args.cell c.in-Ok.at found ∙ ap (put c.args.items.items c.args.cell) none

pub index_mut-requires : goal.index_mut-requires
index_mut-requires c =
    let found : IsFound (keys_of c.args.items.items) c.args.cell c.in-Ok.at = subst (λ (l : Cells). IsFound (keys_of l) c.args.cell c.in-Ok.at) c.as_slice.ensures.value c.in-Ok.ensures in
    omega (arith, found_within c.args.items.items c.args.cell c.in-Ok.at found)

pub returns-else-value-eq0 : goal.returns-else-value-eq0
returns-else-value-eq0 c =
    let found : IsFound (keys_of c.args.items.items) c.args.cell c.in-Ok.at = subst (λ (l : Cells). IsFound (keys_of l) c.args.cell c.in-Ok.at) c.as_slice.ensures.value c.in-Ok.ensures in
    let above : 0 < c.args.value = omega arith in
    ap (λ pair. set c.args.items.items c.in-Ok.at (pair.0, c.args.value)) c.index_mut.ensures.value ∙ changed c.args.items.items c.args.cell c.in-Ok.at c.index_mut.result.now c.args.value above found

pub returns-then-value-eq0-2 : goal.returns-then-value-eq0-2
returns-then-value-eq0-2 c =
    let gap : IsGap (keys_of c.args.items.items) c.args.cell c.in-Err.at = subst (λ (l : Cells). IsGap (keys_of l) c.args.cell c.in-Err.at) c.as_slice.ensures.value c.in-Err.ensures in
    let none : 0 ≡ c.args.value = omega arith in
    unchanged c.args.items.items c.args.cell c.in-Err.at gap ∙ ap (put c.args.items.items c.args.cell) none

pub returns-in_ok-insert-in-Err : goal.returns-in_ok-insert-in-Err
returns-in_ok-insert-in-Err c =
    let gap : IsGap (keys_of c.args.items.items) c.args.cell c.in-Err.at = subst (λ (l : Cells). IsGap (keys_of l) c.args.cell c.in-Err.at) c.as_slice.ensures.value c.in-Err.ensures in
    let above : 0 < c.args.value = omega arith in
    c.in_ok-insert-in-Err.ensures.items ∙ added c.args.items.items c.args.cell c.in-Err.at c.args.value above gap
