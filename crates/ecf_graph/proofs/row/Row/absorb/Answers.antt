use Rattle.std.proofs.Common.{◌≡◌, ◌<◌, ◌/◌, min, true, refl, arith, length}
use Rattle.std.proofs.lemmas.Grind.{get_or_default_zero, common_steps}
use Rattle.ecf_graph.specs.Rows.{is_member}
use Rattle.ecf_graph.proofs.BitLaws.{Union-next, Union-member}
use Rattle.ecf_graph.proofs.row.Row.absorb.Goals as goal

pub loop-k-init : goal.loop-k-init
loop-k-init c = record {
  union = record { done = λ m l. absurd (omega (arith, l)); rest = λ m l. refl };
  long = refl;
}

pub loop-k-preserved : goal.loop-k-preserved
loop-k-preserved c = record {
  union = Union-next c.self.inside.words.items c.other.inside.words.items c.loop-k.self-inside.words.items c.loop-k.k c.index_mut.result.now c.index.result.now (grind arith) (grind (arith, get_or_default_zero)) (grind (arith, get_or_default_zero)) c.loop-k.invariant.union;
  long = grind (arith, common_steps);
}

pub returns-clause-joined : goal.returns-clause-joined
returns-clause-joined c k =
    let end : c.loop-k.k ≡ min (length c.self.inside.words.items) (length c.other.inside.words.items) = grind arith in
    let room : is_member c.other.inside.words.items k ≡ true → k / 64 < length c.self.inside.words.items = rw (c.self.view_is, c.other.view_is) (c.requires k) in
    rw (← c.self.view_is, ← c.other.view_is) (Union-member c.self.inside.words.items c.other.inside.words.items c.loop-k.self-inside.words.items k c.loop-k.k end room c.loop-k.invariant.union)
