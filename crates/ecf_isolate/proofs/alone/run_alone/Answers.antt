-- The next invocation of the order is there and answers, since the run is a committed one; its run joins those so far.
use Rattle.std.proofs.Common.{ℕ, take, slice_index_or, ap}
use Rattle.ecf_heap.specs.Overlaid.{store_of}
use Rattle.ecf_isolate.proofs.CommittedLaws.{NextAnswers, next_answers, next_inside, next_is, next_ends, do_as_recorded}
use Rattle.ecf_isolate.proofs.RunLaws.{none_yet, one_more_run, all_runs}
use Rattle.ecf_removed.specs.LoneRuns.{lone_runs}
use Rattle.ecf_isolate.proofs.alone.run_alone.Goals as goal

pub loop-inv-init : goal.loop-inv-init
loop-inv-init g c =
    none_yet c.args.typed.now c.args.invocations.now (g.R.CellRead.store c.args.before.now) _ c.new-runs.result c.new-runs.ensures (ap store_of c.new-after.ensures)

pub bounds-invocations-inv : goal.bounds-invocations-inv
bounds-invocations-inv g c =
    let before = g.R.CellRead.store c.args.before.now in
    let from = c.requires in
    next_inside c.args.typed.now c.args.invocations.now _ _
    (next_answers c.each_repeats_next.ensures c.args.typed.now from.0 from.1 c.args.object before c.args.invocations.now c.args.order.now c.know_store.ensures from.2 c.loop-inv.inv-index 0 c.loop-inv-test.true)

pub run_next-requires : goal.run_next-requires
run_next-requires g c =
    let before = g.R.CellRead.store c.args.before.now in
    let from = c.requires in
    next_ends c.args.typed.now c.args.invocations.now _ _ _ c.index-invocations-inv.result
    (next_answers c.each_repeats_next.ensures c.args.typed.now from.0 from.1 c.args.object before c.args.invocations.now c.args.order.now c.know_store.ensures from.2 c.loop-inv.inv-index 0 c.loop-inv-test.true)
    c.index-invocations-inv.is c.loop-inv.invariant.fields

pub loop-inv-preserved : goal.loop-inv-preserved
loop-inv-preserved g c =
    let before = g.R.CellRead.store c.args.before.now in
    let from = c.requires in
    one_more_run c.lone_runs_go_on.ensures c.args.typed.now c.args.invocations.now c.args.order.now before c.loop-inv.inv-index 0 c.index-invocations-inv.result c.loop-inv.runs c.push.new.self c.in_ok-run.run' _ _ c.loop-inv-test.true c.in_ok-push.ensures.ok
    (next_is c.args.typed.now c.args.invocations.now _ _ c.index-invocations-inv.result
    (next_answers c.each_repeats_next.ensures c.args.typed.now from.0 from.1 c.args.object before c.args.invocations.now c.args.order.now c.know_store.ensures from.2 c.loop-inv.inv-index 0 c.loop-inv-test.true)
    c.index-invocations-inv.is)
    c.loop-inv.invariant c.in_ok-run.ensures.run c.in_ok-run.ensures.fields

pub returns-clause-removed : goal.returns-clause-removed
returns-clause-removed g c =
    let before = g.R.CellRead.store c.args.before.now in
    λ store tx from.
    do_as_recorded c.callbacks_removed.ensures c.args.typed.now store tx c.args.object before c.args.invocations.now c.args.order.now c.loop-inv.runs (store_of c.loop-inv.after) c.know_store.ensures
    (all_runs c.args.typed.now c.args.invocations.now c.args.order.now before c.loop-inv.inv-index c.loop-inv.runs (store_of c.loop-inv.after) c.loop-inv-test.false c.loop-inv.invariant)
    from
