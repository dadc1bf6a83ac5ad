use Rattle.std.proofs.Common.{◌≡◌, ◌==◌, ◌&&◌, not, ℕ, Bool, List, ◌∙◌}
use Rattle.std.proofs.lemmas.Result.{IfOk-weaker}
use Rattle.ecf_verdicts.specs.Before.{before}
use Rattle.ecf_conflict.specs.Pairs.{pairs_of}
use Rattle.ecf_graph.specs.Rows.{is_in_row}
use Rattle.ecf_conflict.proofs.PairLaws.{of_same, apart_before}
use Rattle.ecf_conflict.proofs.edges.pairs_before.Goals as goal

abbrev apart : List (List ℕ) → ℕ → ℕ → Bool
apart rows a b = not (a == b) && is_in_row rows b a

pub returns : goal.returns
returns c =
    let rows = c.in_ok-rows.rows.items in
    let list = c.args.members.now in
    let same : pairs_of (apart rows) list ≡ pairs_of (before c.args.steps.now) list = of_same (apart rows) (before c.args.steps.now) list (apart_before c.args.steps.now (is_in_row rows) (λ i j n. c.in_ok-rows.ensures i j)) in
    IfOk-weaker c.pairs_in.result _ _ (λ v e. e ∙ (rw c.as_slice.ensures.value same)) c.pairs_in.ensures
