use Rattle.std.proofs.Common.{◌+◌, ◌<◌, ◌++◌, List, ℕ, drop, length, get_or, refl, sym, ap, ◌∙◌, arith}
use Rattle.std.proofs.lemmas.List.{append-nil}
use Rattle.ecf_graph.specs.Rows.{those_in}
use Rattle.ecf_graph.proofs.RoundLaws.{in_end, in_here, in_there, put_on}
use Rattle.ecf_graph.proofs.placement.list_left.Goals.{then-contains+in_ok-push, else-contains}
use Rattle.ecf_graph.proofs.placement.list_left.Goals as goal

pub loop-i-init : goal.loop-i-init
loop-i-init c = rw c.new-list.ensures.items refl

pub loop-i-preserved : goal.loop-i-preserved
loop-i-preserved c =
    let left = c.args.left.now in
    let members = c.args.members.now in
    let list = c.loop-i.list.items in
    let k = c.loop-i.i-index in
    let x = get_or members k 0 in
    let inside : k < length members = omega arith in
    elim c.if-contains.branch [
      | then-contains+in_ok-push w ↦ rw (w.list-is, w.in_ok-push.ensures.items) (put_on list (those_in left (drop (k + 1) members)) x (those_in left members)
          (ap (λ (l : List ℕ). list ++ l) (sym (in_here left members k x inside refl (sym c.contains.ensures ∙ w.if-contains.true))) ∙ c.loop-i.invariant))
      | else-contains w ↦ rw w.list-is (ap (λ (l : List ℕ). list ++ l) (sym (in_there left members k x inside refl (sym c.contains.ensures ∙ w.if-contains.false))) ∙ c.loop-i.invariant)
    ]

pub returns : goal.returns
returns c = sym (append-nil c.loop-i.list.items) ∙ (ap (λ (l : List ℕ). c.loop-i.list.items ++ l) (sym (in_end c.args.left.now c.args.members.now c.loop-i.i-index (omega arith))) ∙ c.loop-i.invariant)
