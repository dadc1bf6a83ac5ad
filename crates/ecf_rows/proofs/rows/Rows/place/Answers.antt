use Rattle.std.proofs.Common.{◌≡◌, ℕ, ◌+◌, ◌<◌, ◌&&◌, ◌||◌, ◌==◌, not, true, length, sym, ap, subst, ◌∙◌, arith}
use Rattle.std.specs.Prelude.{slice_index, slice_set}
use Rattle.std.proofs.lemmas.Grind.{get_or_default_zero, common_steps}
use Rattle.ecf_core.specs.declared.book.RowState.TheVariants.{Done}
use Rattle.ecf_rows.specs.Standing.{Standing, state_at, may_place}
use Rattle.ecf_rows.specs.Kept.{is_left, one_if_claimed}
use Rattle.ecf_rows.specs.RowSet.{is_member}
use Rattle.ecf_rows.proofs.PlaceLaws.{placed}
use Rattle.ecf_rows.proofs.rows.Rows.place.Goals as goal

pub invariant_of-self : goal.invariant_of-self
invariant_of-self c =
    let s : Standing = record { submitters = c.self.inside.submitters.items; states = c.self.inside.states.items } in
    let links = c.self.inside.links.items in
    let now = slice_set c.self.inside.states.items c.args.row (Done c.args.seq) in
    let inside : c.args.row < length c.self.inside.states.items = grind arith in
    let state : c.index.result.now ≡ state_at s c.args.row = grind (arith, common_steps) in
    let may : may_place s c.args.row ≡ true = subst (λ t. may_place t c.args.row ≡ true) (sym c.self.view_is) c.requires in
    let next : c.index-then-at-len.result.now ≡ slice_index links c.args.row = grind (arith, get_or_default_zero) in
    let members : (k : ℕ) → is_member c.enter_if_left.new.set k ≡ ((is_member c.self.inside.claimable k && not (k == c.args.row)) || (is_left now (slice_index links c.args.row) && (k == slice_index links c.args.row))) =
    λ k. c.enter_if_left.ensures.members k ∙ ap (λ b. b || (is_left c.as_slice.result.now c.index-then-at-len.result.now && (k == c.index-then-at-len.result.now))) (c.remove.ensures.members k)
    ∙ ap (λ l. (is_member c.self.inside.claimable k && not (k == c.args.row)) || (is_left l c.index-then-at-len.result.now && (k == c.index-then-at-len.result.now))) c.as_slice.ensures.value
    ∙ ap (λ n. (is_member c.self.inside.claimable k && not (k == c.args.row)) || (is_left now n && (k == n))) next in
    let words : length c.enter_if_left.new.set ≡ length c.self.inside.claimable = c.enter_if_left.ensures.words ∙ c.remove.ensures.words in
    let count : c.without-self-inside.result + one_if_claimed (state_at s c.args.row) ≡ c.self.inside.claimed = ap (λ y. c.without-self-inside.result + one_if_claimed y) (sym state) ∙ c.without-self-inside.ensures in
    placed s links c.self.inside.claimable c.enter_if_left.new.set c.self.inside.claimed c.without-self-inside.result c.self.inside.settled c.args.row c.args.seq c.self.invariant inside may members words count
