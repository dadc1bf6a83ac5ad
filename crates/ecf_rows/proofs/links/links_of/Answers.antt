use Rattle.std.proofs.Common.{◌≡◌, suc, ◌+◌, ◌-◌, ◌<◌, length, nat_eq, refl, sym, ap, subst, ◌∙◌, arith}
use Rattle.std.specs.Prelude.{slice_index}
use Rattle.std.specs.Option.{unwrap_or}
use Rattle.indexmap.specs.IndexMap.{get}
use Rattle.ecf_rows.specs.Links.{AreLinks, FindsFirst, IsFirstFrom}
use Rattle.ecf_rows.proofs.LinkLaws.{found_more, linked_more}
use Rattle.ecf_rows.proofs.links.links_of.Goals as goal

pub loop-k-preserved : goal.loop-k-preserved
loop-k-preserved c =
    let list = c.args.submitters.now in
    let k = c.loop-k.k - 1 in
    let within : c.loop-k.k - 1 < length c.args.submitters.now = omega (arith, c.loop-k.invariant.within) in
    let next_place : c.loop-k.k ≡ suc (c.loop-k.k - 1) = omega arith in
    let found : FindsFirst list (suc k) (get nat_eq c.loop-k.first) = subst (λ z. FindsFirst list z (get nat_eq c.loop-k.first)) next_place c.loop-k.invariant.first in
    let links : AreLinks list c.args.before (suc k) c.loop-k.next.items = subst (λ z. AreLinks list c.args.before z c.loop-k.next.items) next_place c.loop-k.invariant.next in
    let place : unwrap_or (get nat_eq c.loop-k.first (slice_index list k)) (length list) ≡ c.unwrap_or-place.result = ap (λ o. unwrap_or o (length list)) (sym c.in_ok-later.ensures.old) ∙ sym c.unwrap_or-place.ensures in
    record {
      within = omega (arith, within);
      next = linked_more list c.args.before k (c.args.before + c.unwrap_or-place.result) c.unwrap_or-place.result c.loop-k.next.items within links refl (subst (IsFirstFrom list (suc k) (slice_index list k)) place (found (slice_index list k)));
      first = found_more list k (get nat_eq c.loop-k.first) (get nat_eq c.insert.new.self) within found c.in_ok-later.ensures.updates.0;
    }
