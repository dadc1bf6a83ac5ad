use Rattle.std.proofs.Common.{◌≡◌, ◌+◌, ◌*◌, ◌≤◌, true, ◌++◌, length, map, replicate, refl, sym, ap, subst, ◌∙◌, arith}
use Rattle.std.specs.Prelude.{All}
use Rattle.std.specs.Arc.{arc_value}
use Rattle.ecf_lang.specs.declared.limits.TheConstants.{MAX_TRANSACTIONS}
use Rattle.ecf_core.specs.declared.book.RowState.TheVariants.{Free}
use Rattle.ecf_core.specs.Book.{is_done, new_rows}
use Rattle.ecf_rows.specs.Standing.{Standing, extended, submitters_of}
use Rattle.ecf_rows.specs.Links.{AreLinks, HasEntered}
use Rattle.ecf_rows.proofs.RangeLaws.{length_mapped}
use Rattle.ecf_rows.proofs.ExtendLaws.{extended_kept, kept_alike, kept_wider, free_rows, standing_alike, as_many_submitters}
use Rattle.ecf_rows.proofs.rows.Rows.extend.Goals as goal

pub invariant_of-self : goal.invariant_of-self
invariant_of-self c = kept_wider (record { submitters = c.self.inside.submitters.items; states = c.self.inside.states.items }) c.self.inside.links.items c.self.inside.claimable c.make_room.new.self c.self.inside.claimed c.self.inside.settled c.self.invariant c.make_room.ensures.members c.make_room.ensures.longer

pub invariant_of-self-in_err-reserve : goal.invariant_of-self-in_err-reserve
invariant_of-self-in_err-reserve c =
    kept_alike c.self.inside.submitters.items c.self.inside.submitters.items c.self.inside.states.items c.self.inside.states.items c.self.inside.links.items c.reserve.new.self.items c.make_room.new.self c.self.inside.claimed c.self.inside.settled refl refl c.reserve.ensures.items
    (kept_wider (record { submitters = c.self.inside.submitters.items; states = c.self.inside.states.items }) c.self.inside.links.items c.self.inside.claimable c.make_room.new.self c.self.inside.claimed c.self.inside.settled c.self.invariant c.make_room.ensures.members c.make_room.ensures.longer)

pub invariant_of-self-in_err-reserve-2 : goal.invariant_of-self-in_err-reserve-2
invariant_of-self-in_err-reserve-2 c =
    kept_alike c.self.inside.submitters.items c.self.inside.submitters.items c.self.inside.states.items c.reserve-2.new.self.items c.self.inside.links.items c.reserve.new.self.items c.make_room.new.self c.self.inside.claimed c.self.inside.settled refl c.reserve-2.ensures.items c.reserve.ensures.items
    (kept_wider (record { submitters = c.self.inside.submitters.items; states = c.self.inside.states.items }) c.self.inside.links.items c.self.inside.claimable c.make_room.new.self c.self.inside.claimed c.self.inside.settled c.self.invariant c.make_room.ensures.members c.make_room.ensures.longer)

pub invariant_of-self-in_err-extend_from_slice : goal.invariant_of-self-in_err-extend_from_slice
invariant_of-self-in_err-extend_from_slice c =
    kept_alike c.self.inside.submitters.items c.extend_from_slice.new.self.items c.self.inside.states.items c.reserve-2.new.self.items c.self.inside.links.items c.reserve.new.self.items c.make_room.new.self c.self.inside.claimed c.self.inside.settled c.in_err-extend_from_slice.ensures.items c.reserve-2.ensures.items c.reserve.ensures.items
    (kept_wider (record { submitters = c.self.inside.submitters.items; states = c.self.inside.states.items }) c.self.inside.links.items c.self.inside.claimable c.make_room.new.self c.self.inside.claimed c.self.inside.settled c.self.invariant c.make_room.ensures.members c.make_room.ensures.longer)

pub invariant_of-self-2 : goal.invariant_of-self-2
invariant_of-self-2 c =
    let s : Standing = record { submitters = c.self.inside.submitters.items; states = c.self.inside.states.items } in
    let more = c.in_ok-submitters.submitters.items in
    let next = c.in_ok-links.links.next.items in
    let before = c.len-before.result in
    let at : c.len-before.result ≡ length c.self.inside.states.items = grind arith in
    let count : length c.in_ok-submitters.submitters.items ≡ length c.args.txs.now = ap length c.in_ok-submitters.ensures ∙ as_many_submitters arc_value c.args.txs.now in
    let done : All (λ state. is_done state ≡ true) c.self.inside.states.items = subst (λ (t : Standing). All (λ state. is_done state ≡ true) t.states) (sym c.self.view_is) c.requires.done in
    let most : length c.self.inside.states.items + length c.args.txs.now ≤ MAX_TRANSACTIONS = subst (λ (t : Standing). length t.states + length c.args.txs.now ≤ MAX_TRANSACTIONS) (sym c.self.view_is) c.requires.few in
    let few : c.len-before.result + length c.in_ok-submitters.submitters.items ≤ MAX_TRANSACTIONS = omega (arith, most, at, count) in
    let wide : c.len-before.result + length c.in_ok-submitters.submitters.items ≤ 64 * length c.make_room.new.self = omega (arith, c.in_ok-make_room.ensures.room, count) in
    let entered : HasEntered more before (length more) c.make_room.new.self c.enter_first.new.set = subst (λ l. HasEntered l before (length l) c.make_room.new.self c.enter_first.new.set) c.as_slice-4.ensures.value c.enter_first.ensures in
    let linked : AreLinks more before 0 next = subst (λ l. AreLinks l before 0 next) c.as_slice.ensures.value c.in_ok-links.ensures.next in
    let all = extended_kept s more c.self.inside.links.items next c.self.inside.claimable c.make_room.new.self c.enter_first.new.set c.self.inside.claimed c.self.inside.settled before at c.self.invariant (λ r l. done r (Free 0) l) few c.make_room.ensures.members wide entered linked in
    let submitters : c.extend_from_slice.new.self.items ≡ c.self.inside.submitters.items ++ more = c.in_ok-extend_from_slice.ensures.items ∙ ap (λ l. c.self.inside.submitters.items ++ l) c.as_slice-2.ensures.value in
    let states : c.append_free.new.states.items ≡ c.self.inside.states.items ++ replicate (length more) (Free 0) = c.append_free.ensures ∙ ap (λ l. l ++ replicate (length c.args.txs.now) (Free 0)) c.reserve-2.ensures.items ∙ ap (λ n. c.self.inside.states.items ++ replicate n (Free 0)) (sym count) in
    let links : c.append_links.new.links.items ≡ c.self.inside.links.items ++ next = c.append_links.ensures ∙ ap (λ l. l ++ c.as_slice-3.result.now) c.reserve.ensures.items ∙ ap (λ l. c.self.inside.links.items ++ l) c.as_slice-3.ensures.value in
    kept_alike (c.self.inside.submitters.items ++ more) c.extend_from_slice.new.self.items (c.self.inside.states.items ++ replicate (length more) (Free 0)) c.append_free.new.states.items (c.self.inside.links.items ++ next) c.append_links.new.links.items c.enter_first.new.set c.self.inside.claimed before submitters states links all

pub returns : goal.returns
returns c =
    let txs = map arc_value c.args.txs.now in
    let count : length txs ≡ length c.args.txs.now = length_mapped arc_value c.args.txs.now in
    let submitters : c.extend_from_slice.new.self.items ≡ c.self.inside.submitters.items ++ submitters_of txs = c.in_ok-extend_from_slice.ensures.items ∙ ap (λ l. c.self.inside.submitters.items ++ l) (c.as_slice-2.ensures.value ∙ c.in_ok-submitters.ensures) in
    let states : c.append_free.new.states.items ≡ c.self.inside.states.items ++ new_rows txs = c.append_free.ensures ∙ ap (λ l. l ++ replicate (length c.args.txs.now) (Free 0)) c.reserve-2.ensures.items ∙ ap (λ l. c.self.inside.states.items ++ l) (ap (λ n. replicate n (Free 0)) (sym count) ∙ free_rows txs) in
    record {
      ok = subst (λ (t : Standing). record { submitters = c.extend_from_slice.new.self.items; states = c.append_free.new.states.items } ≡ extended t txs) c.self.view_is
          (standing_alike c.extend_from_slice.new.self.items (c.self.inside.submitters.items ++ submitters_of txs) c.append_free.new.states.items (c.self.inside.states.items ++ new_rows txs) submitters states);
      err = tt;
    }
