-- What the list has, and what is left in the queue, is what the queue held at first.
use Rattle.std.proofs.Common.{◌≡◌, ◌∙◌, Option, ap, sym, subst, arith, true≢false}
use Rattle.std.specs.Prelude.{IfSome, IsSome}
use Rattle.ecf_handoff.specs.declared.account.Account.{Account}
use Rattle.ecf_handoff.specs.declared.limits.TheConstants.{WHOLE_SHARE}
use Rattle.ecf_handoff.specs.Content.{IsContent, HasTaken}
use Rattle.ecf_handoff.specs.Handoffs.{account_of}
use Rattle.ecf_handoff.proofs.BalanceLaws.{pass_knows}
use Rattle.ecf_handoff.proofs.ContentLaws.{one_content, content_once, all_fit, taken_on, closed}
use Rattle.ecf_handoff.proofs.handoff.Handoff.close.Goals as goal
use Rattle.ecf_handoff.proofs.handoff.Handoff.close.Goals.{in-None, in-Some+then-is_empty_as}
use Rattle.ecf_handoff.proofs.handoff.Handoff.close.Given as given

pub is_empty_as-requires-clause-rule : goal.is_empty_as-requires-clause-rule
is_empty_as-requires-clause-rule g c = pass_knows _ _ _

pub loop-preserved-in-Some-item : goal.loop-preserved-in-Some-item
loop-preserved-in-Some-item g c =
    let Taken : Option g.row.T.Denot → Type 0 = λ o. IfSome o (λ item. g.J.Job.fits item × HasTaken (account_of c.is_empty_as.new.pass) item (account_of c.take-after.result.0)) in
    let took : g.J.Job.fits c.in-Some-item.item × HasTaken (account_of c.is_empty_as.new.pass) c.in-Some-item.item (account_of c.take-after.result.0) = subst Taken c.in-Some-item.is c.take-after.ensures.taken in
    let same = c.is_empty_as.ensures.queue.1 in
    let share = λ (a : Account g.row.T.Denot). a.share in (
      c.take-after.ensures.pass,
      ap share took.1.is ∙ (ap share same ∙ c.loop.invariant.1),
      taken_on (account_of c.args.pass) (account_of c.loop.pass) (account_of c.is_empty_as.new.pass) (account_of c.take-after.result.0) c.loop.left.items c.push_reserved.new.self.items c.in-Some-item.item same took.1 c.push_reserved.ensures.items c.loop.invariant.2,
      all_fit g.J.Job.fits c.loop.left.items c.push_reserved.new.self.items c.in-Some-item.item c.push_reserved.ensures.items c.loop.invariant.3 took.0,
      omega arith,
      omega arith,
    )

content : (g : given.Over) (c : goal.After-drop-self g) → (account_of c.args.pass).share ≡ WHOLE_SHARE → IsContent (account_of c.args.pass) c.loop.left.items
content g c whole = elim c.match-next.branch [
  | in-None w ↦ absurd (true≢false (sym (subst IsSome w.in-None.is c.next.ensures.steps)))
  | in-Some+then-is_empty_as w ↦
      closed g.J.Job.fits (account_of c.args.pass) (account_of c.loop.pass) c.loop.left.items c.loop.invariant.1 c.loop.invariant.2 (w.is_empty_as.ensures.rule w.if-is_empty_as.true) whole
]

pub returns-clause-in_order : goal.returns-clause-in_order
returns-clause-in_order g c = content g c

pub returns-clause-nothing_else : goal.returns-clause-nothing_else
returns-clause-nothing_else g c = λ whole items is. one_content (account_of c.args.pass) items c.loop.left.items is (content g c whole)

pub returns-clause-each_once : goal.returns-clause-each_once
returns-clause-each_once g c = λ whole. content_once (account_of c.args.pass) c.loop.left.items (content g c whole)
