use Rattle.std.proofs.Common.{◌<◌, ◌≤◌, ◌⊎◌, inl, inr, length, arith}
use Rattle.std.proofs.lemmas.Grind.{get_or_default_zero}
use Rattle.ecf_graph.proofs.BitLaws.{intersects_from, intersects_none}
use Rattle.ecf_graph.proofs.row.Row.intersects.Goals.{then-len, else-len}
use Rattle.ecf_graph.proofs.row.Row.intersects.Goals as goal

pub returns-then-index-ne0-clause-yes : goal.returns-then-index-ne0-clause-yes
returns-then-index-ne0-clause-yes c _ =
    let count_a : c.loop-k.k < length c.self.inside.words.items = elim c.if-len.branch [ then-len w ↦ grind arith | else-len w ↦ grind arith ] in
    let count_b : c.loop-k.k < length c.other.inside.words.items = elim c.if-len.branch [ then-len w ↦ grind arith | else-len w ↦ grind arith ] in
    rw (← c.self.view_is, ← c.other.view_is) (intersects_from c.self.inside.words.items c.other.inside.words.items c.loop-k.k c.index.result.now c.index-in-loop-k.result.now (grind (arith, get_or_default_zero)) (grind (arith, get_or_default_zero)) (omega arith) c.if-index-ne0.true)

pub returns-clause-no : goal.returns-clause-no
returns-clause-no c _ =
    let past : (length c.self.inside.words.items ≤ c.if-len.count) ⊎ (length c.other.inside.words.items ≤ c.if-len.count) = elim c.if-len.branch [ then-len w ↦ inl (grind arith) | else-len w ↦ inr (grind arith) ] in
    rw (← c.self.view_is, ← c.other.view_is) (intersects_none c.self.inside.words.items c.other.inside.words.items c.if-len.count past (λ m l. c.loop-k.invariant m (omega arith)))
