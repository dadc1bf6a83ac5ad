use Rattle.std.proofs.Common.{◌≡◌, ◌≤◌, ◌/◌, ◌⊎◌, false, inl, inr, length, arith}
use Rattle.std.proofs.lemmas.Grind.{get_or_default_zero, common_steps}
use Rattle.ecf_rows.proofs.WordLaws.{took_out, stayed}
use Rattle.ecf_rows.proofs.words.take_out.Goals.{then-not-goes-via-then-not-goes, then-not-goes-via-else-not-goes+then-len-at}
use Rattle.ecf_rows.proofs.words.take_out.Goals as goal

pub returns-then-not-goes : goal.returns-then-not-goes
returns-then-not-goes c =
    let why : (c.args.goes ≡ false) ⊎ (length c.args.words.now.items ≤ c.args.i / 64) = elim c.then-not-goes.branch [
      | then-not-goes-via-then-not-goes w ↦ inl w.if-not-goes.true
      | then-not-goes-via-else-not-goes+then-len-at w ↦ inr (grind arith)
    ] in
    stayed c.args.words.now.items c.args.i c.args.goes why

pub returns : goal.returns
returns c = took_out c.args.words.now.items c.args.i c.index_mut.result.now c.index.result.now c.args.goes c.if-not-goes.false (grind arith) (grind (arith, get_or_default_zero)) (grind (arith, common_steps, get_or_default_zero))
