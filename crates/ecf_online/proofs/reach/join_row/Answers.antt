use Rattle.std.proofs.Common.{◌≡◌, ◌<◌, [], length, get_or, slice_set, sym, ap, ◌∙◌, inl, inr, arith, length-set}
use Rattle.std.proofs.lemmas.Bool.{both_ways}
use Rattle.std.proofs.lemmas.List.{get_or_default}
use Rattle.ecf_graph.specs.Rows.{is_member}
use Rattle.ecf_online.proofs.ClosureLaws.{put_back, while_taken}
use Rattle.ecf_online.proofs.reach.join_row.Goals as goal

pub absorb-requires : goal.absorb-requires
absorb-requires c a h =
    let rows = c.args.rows.now.items in
    let k = c.args.k in
    let at_k : k < length rows = grind arith in
    let at_i : c.args.i < length rows = grind arith in
    let len = length-set rows k c.replace-row.new.dest in
    let taken : c.replace-row.result ≡ get_or rows k [] = c.replace-row.ensures.value ∙ (c.index_mut.ensures.value ∙ get_or_default rows k c.index_mut.result.now [] at_k) in
    let other : c.index.result.now ≡ get_or (slice_set rows k c.replace-row.new.dest) c.args.i [] = c.index.ensures ∙ get_or_default (slice_set rows k c.replace-row.new.dest) c.args.i c.index.result.now [] (omega (arith, at_i, len)) in
    let none = ap (λ r. is_member r a) c.replace-row.ensures.after ∙ c.new.ensures.none a in
    let here = ap (λ r. is_member r a) (sym other) ∙ h in
    rw taken (elim (while_taken rows k c.args.i c.replace-row.new.dest a at_k none) [
      | inl (e, f) ↦ absurd (both_ways _ f here)
      | inr (n, f) ↦ c.requires.members a (sym f ∙ here)
    ])

pub returns-clause-joined : goal.returns-clause-joined
returns-clause-joined c =
    let rows = c.args.rows.now.items in
    let k = c.args.k in
    let at_k : k < length rows = grind arith in
    let at_i : c.args.i < length rows = grind arith in
    let len = length-set rows k c.replace-row.new.dest in
    let taken : c.replace-row.result ≡ get_or rows k [] = c.replace-row.ensures.value ∙ (c.index_mut.ensures.value ∙ get_or_default rows k c.index_mut.result.now [] at_k) in
    let other : c.index.result.now ≡ get_or (slice_set rows k c.replace-row.new.dest) c.args.i [] = c.index.ensures ∙ get_or_default (slice_set rows k c.replace-row.new.dest) c.args.i c.index.result.now [] (omega (arith, at_i, len)) in
    put_back rows k c.args.i c.replace-row.new.dest c.replace-row.result c.index.result.now c.absorb.new.self c.put.new.self at_k (λ a. ap (λ r. is_member r a) c.replace-row.ensures.after ∙ c.new.ensures.none a) taken other c.absorb.ensures.joined c.put.ensures.put
