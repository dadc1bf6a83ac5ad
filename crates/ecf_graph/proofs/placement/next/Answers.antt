use Rattle.std.proofs.Common.{◌<◌, ℕ, Bool, not, find, length, get_or, refl, sym, ap, ◌∙◌, arith}
use Rattle.ecf_graph.specs.Rows.{is_in_row, those_in}
use Rattle.ecf_graph.specs.Placement.{next_of, waits}
use Rattle.ecf_graph.proofs.RoundLaws.{in_end, left_here, left_there}
use Rattle.ecf_graph.proofs.placement.next.Goals as goal

pub loop-at-init : goal.loop-at-init
unfolding next_of
loop-at-init c = ap (find (λ j. not (waits (λ a b. is_in_row c.args.rows.now b a) (those_in c.args.left.now c.args.members.now) j))) c.requires.from

pub loop-at-preserved : goal.loop-at-preserved
loop-at-preserved c =
    let r : ℕ → ℕ → Bool = λ a b. is_in_row c.args.rows.now b a in
    let members = c.args.members.now in
    let x = get_or members c.loop-at.at 0 in
    let inside : c.loop-at.at < length members = omega arith in
    sym (left_there r c.args.left.now members (those_in c.args.left.now members) c.loop-at.at x inside refl c.requires.set (c.is_free.ensures.no c.if-is_free.false)) ∙ c.loop-at.invariant

pub returns-then-is_free : goal.returns-then-is_free
returns-then-is_free c =
    let r : ℕ → ℕ → Bool = λ a b. is_in_row c.args.rows.now b a in
    let members = c.args.members.now in
    let x = get_or members c.loop-at.at 0 in
    let inside : c.loop-at.at < length members = omega arith in
    sym (left_here r c.args.left.now members (those_in c.args.left.now members) c.loop-at.at x inside refl c.requires.set (c.is_free.ensures.yes c.if-is_free.true)) ∙ c.loop-at.invariant

pub returns : goal.returns
returns c =
    let left = c.args.left.now in
    let members = c.args.members.now in
    sym (ap (find (λ j. not (waits (λ a b. is_in_row c.args.rows.now b a) (those_in left members) j))) (in_end left members c.loop-at.at (omega arith))) ∙ c.loop-at.invariant
