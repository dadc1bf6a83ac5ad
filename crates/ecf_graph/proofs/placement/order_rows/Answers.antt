use Rattle.std.proofs.Common.{◌≡◌, ◌==◌, ◌-◌, ◌+◌, suc, ℕ, List, Bool, true, length, refl, sym, ap, subst, ◌∙◌, arith}
use Rattle.std.specs.List.{list_any}
use Rattle.std.proofs.lemmas.Bool.{both_ways}
use Rattle.ecf_graph.specs.Rows.{is_in_row, those_in}
use Rattle.ecf_graph.specs.Placement.{placement_of}
use Rattle.ecf_graph.proofs.RoundLaws.{Left, Left-first, Left-round, Left-stuck, Left-end, in_all, none_next, ordered_same}
use Rattle.ecf_graph.proofs.placement.order_rows.Goals.{then-more+in_ok-more, else-more}
use Rattle.ecf_graph.proofs.placement.order_rows.Goals as goal

pub loop-k-init : goal.loop-k-init
loop-k-init c =
    let r : ℕ → ℕ → Bool = λ a b. is_in_row c.args.rows.now b a in
    let members = c.args.members.now in
    let all : those_in c.in_ok-left.left members ≡ members = in_all c.in_ok-left.left members (λ i e. c.in_ok-left.ensures i ∙ e) in
    record {
      from = refl;
      set = λ i. c.in_ok-left.ensures i ∙ ap (λ (l : List ℕ). list_any (λ x. x == i) l) (sym all);
      left = subst (λ n. Left r (placement_of r members) n c.new-placed.result.items (those_in c.in_ok-left.left members)) (omega arith) (Left-first r members c.new-placed.result.items (those_in c.in_ok-left.left members) c.new-placed.ensures.items all);
      stuck = λ e. absurd (both_ways true e refl);
    }

pub loop-k-preserved : goal.loop-k-preserved
loop-k-preserved c =
    let r : ℕ → ℕ → Bool = λ a b. is_in_row c.args.rows.now b a in
    let members = c.args.members.now in
    let all = placement_of r members in
    let n = length members - c.loop-k.k in
    let m = length members - (c.loop-k.k + 1) in
    let e : n ≡ suc m = omega arith in
    let old = those_in c.loop-k.left members in
    elim c.if-more.branch [
      | then-more+in_ok-more w ↦
          let new = those_in w.place_next.new.left members in
          record {
            from = rw (w.left-is, w.from-is) w.in_ok-more.ensures.from;
            set = λ i. rw w.left-is (w.in_ok-more.ensures.set i);
            left = rw (w.left-is, w.placed-is) (Left-round r all n m w.in_ok-more.more old c.loop-k.placed.items new w.place_next.new.placed.items e w.in_ok-more.ensures.next c.loop-k.invariant.left);
            stuck = λ q. rw w.left-is (none_next r w.in_ok-more.more old c.loop-k.placed.items new w.place_next.new.placed.items (sym w.more-is ∙ q) w.in_ok-more.ensures.next);
          }
      | else-more w ↦ record {
        from = rw (w.left-is, w.from-is) c.loop-k.invariant.from;
        set = λ i. rw w.left-is (c.loop-k.invariant.set i);
        left = rw (w.left-is, w.placed-is) (Left-stuck r all n m old c.loop-k.placed.items (c.loop-k.invariant.stuck w.if-more.false) c.loop-k.invariant.left);
        stuck = λ _. rw w.left-is (c.loop-k.invariant.stuck w.if-more.false);
      }
    ]

pub returns : goal.returns
returns c =
    let r : ℕ → ℕ → Bool = λ a b. is_in_row c.args.rows.now b a in
    let ends = Left-end r (placement_of r c.args.members.now) _ c.loop-k.placed.items (those_in c.loop-k.left c.args.members.now) (omega arith) c.loop-k.invariant.left in
    ordered_same c.answer.result _ _ ends.0 (c.in_ok-rest.ensures ∙ ends.1) c.answer.ensures
