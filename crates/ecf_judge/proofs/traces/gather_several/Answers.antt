use Rattle.std.proofs.Common.{◌≡◌, ◌<◌, ◌++◌, ◌∷◌, [], length, get_or, ap, ◌∙◌, arith}
use Rattle.std.proofs.lemmas.List.{get_or_default, take_all}
use Rattle.ecf_verdicts.specs.Traces.{trace}
use Rattle.ecf_judge.proofs.TraceLaws.{traces_none, traces_at, skipped_at, zero_step}
use Rattle.ecf_judge.proofs.traces.gather_several.Goals.{then-is_several+in_ok-push, else-is_several}
use Rattle.ecf_judge.proofs.traces.gather_several.Goals as goal

pub loop-step-init : goal.loop-step-init
loop-step-init c = record {
  long = c.in_ok-traces.ensures.long;
  are = traces_none c.args.members.now.table c.in_ok-traces.traces.items c.in_ok-traces.ensures.none;
}

pub loop-step-preserved : goal.loop-step-preserved
loop-step-preserved c =
    let k = c.loop-step.step-index in
    let steps = c.args.steps.now in
    let traces = c.loop-step.traces.items in
    let s = get_or steps k zero_step in
    let inside : k < length steps = omega arith in
    elim c.if-is_several.branch [
      | then-is_several+in_ok-push w ↦ (
          let below : s.cell.object < c.args.members.now.above = c.args.members.now.several_below s.cell.object (c.is_several.ensures.yes w.if-is_several.true) in
          let taken : s.cell.object < length traces = (let long = c.loop-step.invariant.long in omega (arith, below, long)) in
          let old : w.index_mut.result.now ≡ get_or traces s.cell.object [] = w.index_mut.ensures.value ∙ get_or_default traces s.cell.object w.index_mut.result.now [] taken in
          let more : w.push.new.self ≡ get_or traces s.cell.object [] ++ s ∷ [] = w.in_ok-push.ensures.ok ∙ ap (λ l. l ++ s ∷ []) old in
          rw w.traces-is (record { long = c.loop-step.invariant.long; are = traces_at steps k zero_step c.args.members.now.table traces w.push.new.self inside taken c.loop-step.invariant.are more })
          )
      | else-is_several w ↦ rw w.traces-is (record { long = c.loop-step.invariant.long; are = skipped_at steps k zero_step c.args.members.now.table traces inside (c.is_several.ensures.no w.if-is_several.false) c.loop-step.invariant.are })
    ]

-- the name of this goal is a guess: the place is within the list
pub index_mut-requires : goal.index_mut-requires
index_mut-requires c =
    let o = (get_or c.args.steps.now c.loop-step.step-index zero_step).cell.object in
    let below : o < c.args.members.now.above = c.args.members.now.several_below o (c.is_several.ensures.yes c.if-is_several.true) in
    let long = c.loop-step.invariant.long in
    omega (arith, below, long)

pub returns : goal.returns
returns c o several = c.loop-step.invariant.are o several ∙ ap (λ u. trace u o) (take_all c.loop-step.step-index c.args.steps.now (omega arith))
