use Rattle.std.proofs.Common.{◌≡◌, ◌+◌, ◌<◌, List, ℕ, [], ◌∷◌, ◌++◌, length, take, ap, sym, subst, ◌∙◌, arith, add-one}
use Rattle.ecf_stream.specs.Lookup.{FindsNames, AddsName}
use Rattle.ecf_stream.proofs.NameLaws.{length_taken, one_more, finds_more}
use Rattle.ecf_stream.proofs.lookup.table_of_names.Goals as goal

pub loop-number-preserved : goal.loop-number-preserved
loop-number-preserved c =
    let names = c.args.names.now in
    let i = c.loop-number.number in
    let name = c.index-names-number.result in
    let before : i < length names = omega arith in
    let taken : take (i + 1) names ≡ take i names ++ name ∷ [] = ap (λ k. take k names) (add-one i) ∙ one_more names i name before c.index-names-number.is in
    let adds = subst (λ bytes. AddsName c.loop-number.table c.add.new.self bytes i) c.as_bytes.ensures c.in_ok-add.ensures in
    subst (λ (found : List (List ℕ)). FindsNames found c.add.new.self) (sym taken)
    (finds_more (take i names) i name c.loop-number.table c.add.new.self (length_taken names i (omega arith)) c.loop-number.invariant adds)
