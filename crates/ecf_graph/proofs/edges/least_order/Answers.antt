use Rattle.std.proofs.Common.{◌≡◌, ℕ, Bool, List, subst, ◌∙◌, ap}
use Rattle.std.proofs.lemmas.Result.{IfOk-weaker}
use Rattle.ecf_graph.specs.Ordered.{IsOrdered}
use Rattle.ecf_graph.specs.Pairs.{joins}
use Rattle.ecf_graph.specs.Placement.{Placement, placement_of}
use Rattle.ecf_graph.specs.Rows.{is_in_row}
use Rattle.ecf_graph.proofs.edges.least_order.Goals as goal

-- relations that agree everywhere are one
alike : (r q : ℕ → ℕ → Bool) → ((a b : ℕ) → r a b ≡ q a b) → r ≡ q
alike r q e = λ i a b. e a b i

pub returns : goal.returns
returns c =
    let pairs = c.args.edges.now.pairs.items in
    let members = c.args.edges.now.members.items in
    let rows = c.as_slice-2.result.now in
    let same : (a b : ℕ) → is_in_row rows b a ≡ joins pairs a b = λ a b. ap (λ (rs : List (List ℕ)). is_in_row rs b a) c.as_slice-2.ensures.value ∙ (c.in_ok-rows.ensures a b ∙ ap (λ (ps : List (ℕ × ℕ)). joins ps a b) c.as_slice.ensures.value) in
    let whole : placement_of (λ (a b : ℕ). is_in_row rows b a) c.as_slice-3.result.now ≡ placement_of (joins pairs) members =
    ap (λ (r : ℕ → ℕ → Bool). placement_of r c.as_slice-3.result.now) (alike (λ (a b : ℕ). is_in_row rows b a) (joins pairs) same) ∙ ap (λ (ms : List ℕ). placement_of (joins pairs) ms) c.as_slice-3.ensures.value in
    IfOk-weaker c.order_rows.result _ _ (λ o e. subst (λ (p : Placement). IsOrdered o p) whole e) c.order_rows.ensures
