use Rattle.std.proofs.Common.{◌≡◌, ap, ◌∙◌, subst}
use Rattle.std.proofs.lemmas.Result.{IfOk-weaker}
use Rattle.ecf_graph.specs.Ordered.{IsOrdered}
use Rattle.ecf_graph.specs.Placement.{Placement, placement_of}
use Rattle.ecf_graph.specs.Rows.{is_in_row, is_member, numbers_below}
use Rattle.ecf_verdicts.specs.Before.{before}
use Rattle.ecf_verdicts.specs.Traces.{members}
use Rattle.ecf_online.proofs.OrderLaws.{seen_are_members, order_of}
use Rattle.ecf_online.proofs.monitor.Monitor.order.Goals as goal

pub returns : goal.returns
returns c t h =
    let ms : c.in_ok-members.members.items ≡ members t = c.in_ok-members.ensures ∙ (ap (numbers_below (is_member c.args.self.now.seen)) (c.capped.ensures.same h.seen.above_few) ∙ seen_are_members c.numbers_are_members.ensures t c.args.self.now.seen c.args.self.now.above h.seen) in
    let whole : placement_of (λ a b. is_in_row c.as_slice.result.now b a) c.as_slice-2.result.now ≡ placement_of (before t) (members t) = rw (c.as_slice.ensures.value, c.as_slice-2.ensures.value) (order_of c.before_is_of_members.ensures c.reduced_reaches_before.ensures c.placement_by_reach.ensures t c.args.self.now.rows.items c.in_ok-members.members.items h.watched.closure ms) in
    IfOk-weaker c.order_rows.result _ _ (λ o e. subst (λ (p : Placement). IsOrdered o p) whole e) c.order_rows.ensures
