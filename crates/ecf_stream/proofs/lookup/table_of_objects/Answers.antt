use Rattle.std.proofs.Common.{◌≡◌, ◌+◌, ◌<◌, List, ℕ, [], ◌∷◌, ◌++◌, length, map, take, ap, sym, subst, ◌∙◌, arith, add-one}
use Rattle.ecf_lang.specs.declared.typed.TypedObject.{TypedObject}
use Rattle.ecf_stream.specs.Lookup.{FindsNames, AddsName}
use Rattle.ecf_stream.proofs.NameLaws.{length_taken, length_mapped, map_push, one_more, finds_more}
use Rattle.ecf_stream.proofs.lookup.table_of_objects.Goals as goal

abbrev name_of : TypedObject → List ℕ
name_of object = object.name

pub loop-number-preserved : goal.loop-number-preserved
loop-number-preserved c =
    let objects = c.args.objects.now in
    let i = c.loop-number.number in
    let object = c.index-objects-number.result in
    let before : i < length objects = omega arith in
    let taken : map name_of (take (i + 1) objects) ≡ map name_of (take i objects) ++ object.name ∷ [] = ap (λ k. map name_of (take k objects)) (add-one i) ∙ ap (map name_of) (one_more objects i object before c.index-objects-number.is) ∙ map_push name_of (take i objects) object in
    let adds = subst (λ bytes. AddsName c.loop-number.table c.add.new.self bytes i) c.as_bytes.ensures c.in_ok-add.ensures in
    subst (λ (found : List (List ℕ)). FindsNames found c.add.new.self) (sym taken)
    (finds_more (map name_of (take i objects)) i object.name c.loop-number.table c.add.new.self (length_mapped name_of (take i objects) ∙ length_taken objects i (omega arith)) c.loop-number.invariant adds)
