use Rattle.std.proofs.Common.{◌≡◌, ℕ, ◌+◌, ◌<◌, ◌&&◌, ◌||◌, ◌==◌, true, false, length, sym, ap, subst, ◌∙◌, arith}
use Rattle.std.specs.Prelude.{slice_set}
use Rattle.std.proofs.lemmas.Grind.{common_steps}
use Rattle.ecf_core.specs.Book.{as_freed, is_claimed}
use Rattle.ecf_rows.specs.Standing.{Standing, state_at, with_state}
use Rattle.ecf_rows.specs.Kept.{is_left, one_if_claimed}
use Rattle.ecf_rows.specs.RowSet.{is_member}
use Rattle.ecf_rows.proofs.TurnLaws.{free_kept, unmoved, freed_same, absent_not_claimed}
use Rattle.ecf_rows.proofs.rows.Rows.free.Goals.{else-at-len-via-then-at-len+else-is_claimed, else-at-len-via-else-at-len}
use Rattle.ecf_rows.proofs.rows.Rows.free.Goals as goal

pub invariant_of-self : goal.invariant_of-self
invariant_of-self c =
    let s : Standing = record { submitters = c.self.inside.submitters.items; states = c.self.inside.states.items } in
    let y = c.index-then-is_claimed-2.result.now in
    let inside : c.args.row < length c.self.inside.states.items = grind arith in
    let is : state_at s c.args.row ≡ y = grind (arith, common_steps) in
    let tested : c.index.result.now ≡ state_at s c.args.row = grind (arith, common_steps) in
    let counted : c.index-then-is_claimed.result.now ≡ state_at s c.args.row = grind (arith, common_steps) in
    let claimed : is_claimed y ≡ true = ap is_claimed (sym (tested ∙ is)) ∙ sym c.is_claimed.ensures ∙ c.if-is_claimed.true in
    let less : c.without-self-inside.result + one_if_claimed y ≡ c.self.inside.claimed = ap (λ z. c.without-self-inside.result + one_if_claimed z) (sym (counted ∙ is)) ∙ c.without-self-inside.ensures in
    let members : (k : ℕ) → is_member c.enter_if_left.new.set k ≡ (is_member c.self.inside.claimable k || (is_left (slice_set c.self.inside.states.items c.args.row (as_freed y)) c.args.row && (k == c.args.row))) =
    λ k. c.enter_if_left.ensures.members k
    ∙ ap (λ l. is_member c.self.inside.claimable k || (is_left l c.args.row && (k == c.args.row))) (c.as_slice.ensures.value ∙ ap (slice_set c.self.inside.states.items c.args.row) c.freed.ensures) in
    rw c.freed.ensures (free_kept s c.self.inside.links.items c.self.inside.claimable c.enter_if_left.new.set c.self.inside.claimed c.without-self-inside.result c.self.inside.settled c.args.row y is c.self.invariant inside claimed less members c.enter_if_left.ensures.words)

pub returns-else-at-len : goal.returns-else-at-len
returns-else-at-len c =
    let s : Standing = record { submitters = c.self.inside.submitters.items; states = c.self.inside.states.items } in
    let none : is_claimed (state_at s c.args.row) ≡ false = elim c.else-at-len.branch [
      | else-at-len-via-then-at-len+else-is_claimed w ↦ (let is : w.index.result.now ≡ state_at s c.args.row = grind (arith, common_steps) in ap is_claimed (sym is) ∙ sym w.is_claimed.ensures ∙ w.if-is_claimed.false)
      | else-at-len-via-else-at-len w ↦ absent_not_claimed s c.args.row (grind arith)
    ] in
    subst (λ t. t ≡ with_state t c.args.row (as_freed (state_at t c.args.row))) c.self.view_is (sym (unmoved s c.args.row (as_freed (state_at s c.args.row)) (freed_same (state_at s c.args.row) none)))
