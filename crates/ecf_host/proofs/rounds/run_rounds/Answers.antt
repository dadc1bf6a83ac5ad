-- The head, each round and the tail were written, or what was left unwritten is said.
use Rattle.std.proofs.Common.{◌≡◌, Ok, Err, ◌∙◌, subst}
use Rattle.std.proofs.lemmas.Result.{err_from_is_err_and}
use Rattle.ecf_host.specs.Run.{IsReady, HasRound, IsPutTo}
use Rattle.ecf_host.specs.Rounds.{just, rest_text}
use Rattle.ecf_host.specs.World.{sink_state, source_state}
use Rattle.ecf_host.proofs.RoundLaws.{none_begun, head_cut, among_first, round_cut, among_more, is_over, tail_done, tail_cut}
use Rattle.ecf_host.proofs.rounds.run_rounds.Goals as goal

pub returns-in_err-typed : goal.returns-in_err-typed
returns-in_err-typed g c =
    let p = err_from_is_err_and c.from_residual.result c.from_residual.ensures.1 in
    rw (p.1, p.2) (none_begun c.args.typed (source_state g.S.Source c.args.input.now) (sink_state g.K.Sink c.args.out.now))

pub returns-in_err-run : goal.returns-in_err-run
returns-in_err-run g c =
    let p = err_from_is_err_and c.from_residual-in_err-run.result c.from_residual-in_err-run.ensures.1 in
    rw (p.1, p.2) (none_begun c.args.typed (source_state g.S.Source c.args.input.now) (sink_state g.K.Sink c.args.out.now))

pub returns-in_err-write_head : goal.returns-in_err-write_head
returns-in_err-write_head g c =
    let p = err_from_is_err_and c.from_residual-in_err-write_head.result c.from_residual-in_err-write_head.ensures.1 in
    rw (p.1, p.2) (head_cut c.args.typed (source_state g.S.Source c.args.input.now) (sink_state g.K.Sink c.args.out.now) (sink_state g.K.Sink c.write_head.new.out) c.in_err-write_head.field-0.0 c.in_err-write_head.ensures)

pub rounds-init : goal.rounds-init
rounds-init g c =
    among_first c.args.typed (source_state g.S.Source c.args.input.now) (sink_state g.K.Sink c.args.out.now) (sink_state g.K.Sink c.write_head.new.out) c.in_ok-run.run'
    (subst (λ typed. IsReady typed c.in_ok-run.run') c.in_ok-typed.ensures c.in_ok-run.ensures.ready) c.in_ok-run.ensures.first c.in_ok-run.ensures.none c.in_ok-write_head.ensures

pub returns-in_err-round : goal.returns-in_err-round
returns-in_err-round g c =
    let p = err_from_is_err_and c.from_residual-in_err-round.result c.from_residual-in_err-round.ensures.1 in
    let mid = source_state g.S.Source c.rounds.input in
    let after = source_state g.S.Source c.run_round.new.input in
    let now = sink_state g.K.Sink c.rounds.out in
    let out' = sink_state g.K.Sink c.run_round.new.out in
    let typed_is : c.deref.result.now ≡ c.args.typed = c.deref.ensures ∙ c.in_ok-typed.ensures in
    rw (p.1, p.2) (round_cut c.args.typed (source_state g.S.Source c.args.input.now) mid after (sink_state g.K.Sink c.args.out.now) now c.rounds.run c.rounds.invariant c.run_round.new.run out' c.in_err-round.field-0.0
    (subst (λ typed. HasRound typed c.rounds.run c.run_round.new.run mid after now out' (Err c.in_err-round.field-0.0)) typed_is c.in_err-round.ensures))

pub returns-in_err-write_tail : goal.returns-in_err-write_tail
returns-in_err-write_tail g c =
    let p = err_from_is_err_and c.from_residual-in_err-write_tail.result c.from_residual-in_err-write_tail.ensures.1 in
    let before = source_state g.S.Source c.args.input.now in
    let mid = source_state g.S.Source c.rounds.input in
    let after = source_state g.S.Source c.run_round.new.input in
    let out = sink_state g.K.Sink c.args.out.now in
    let now = sink_state g.K.Sink c.rounds.out in
    let written = sink_state g.K.Sink c.run_round.new.out in
    let out' = sink_state g.K.Sink c.write_tail.new.out in
    let typed_is : c.deref.result.now ≡ c.args.typed = c.deref.ensures ∙ c.in_ok-typed.ensures in
    let tail_typed : c.deref-then-round.result.now ≡ c.args.typed = c.deref-then-round.ensures ∙ c.in_ok-typed.ensures in
    let run = c.run_round.new.run in
    let end = c.in_ok-round.round in
    let done = subst (λ typed. HasRound typed c.rounds.run run mid after now written (Ok end)) typed_is c.in_ok-round.ensures in
    rw (p.1, p.2) (tail_cut c.args.typed before after out written out' run end.stop
    (is_over c.args.typed before mid after out now c.rounds.run c.rounds.invariant run written end done.0 done.1 c.if-round.true)
    c.in_err-write_tail.field-0.0
    (subst (λ typed. IsPutTo written out' (rest_text typed (just run.book.setup.txs end.stop)) (Err c.in_err-write_tail.field-0.0)) tail_typed c.in_err-write_tail.ensures))

pub returns-then-round : goal.returns-then-round
returns-then-round g c =
    let before = source_state g.S.Source c.args.input.now in
    let mid = source_state g.S.Source c.rounds.input in
    let after = source_state g.S.Source c.run_round.new.input in
    let out = sink_state g.K.Sink c.args.out.now in
    let now = sink_state g.K.Sink c.rounds.out in
    let written = sink_state g.K.Sink c.run_round.new.out in
    let out' = sink_state g.K.Sink c.write_tail.new.out in
    let typed_is : c.deref.result.now ≡ c.args.typed = c.deref.ensures ∙ c.in_ok-typed.ensures in
    let tail_typed : c.deref-then-round.result.now ≡ c.args.typed = c.deref-then-round.ensures ∙ c.in_ok-typed.ensures in
    let run = c.run_round.new.run in
    let end = c.in_ok-round.round in
    let done = subst (λ typed. HasRound typed c.rounds.run run mid after now written (Ok end)) typed_is c.in_ok-round.ensures in
    tail_done c.args.typed before after out written out' run end.stop
    (is_over c.args.typed before mid after out now c.rounds.run c.rounds.invariant run written end done.0 done.1 c.if-round.true)
    (subst (λ typed. IsPutTo written out' (rest_text typed (just run.book.setup.txs end.stop)) (Ok tt)) tail_typed c.in_ok-write_tail.ensures)

pub rounds-preserved : goal.rounds-preserved
rounds-preserved g c =
    let before = source_state g.S.Source c.args.input.now in
    let mid = source_state g.S.Source c.rounds.input in
    let after = source_state g.S.Source c.run_round.new.input in
    let out = sink_state g.K.Sink c.args.out.now in
    let now = sink_state g.K.Sink c.rounds.out in
    let written = sink_state g.K.Sink c.run_round.new.out in
    let typed_is : c.deref.result.now ≡ c.args.typed = c.deref.ensures ∙ c.in_ok-typed.ensures in
    let end = c.in_ok-round.round in
    let done = subst (λ typed. HasRound typed c.rounds.run c.run_round.new.run mid after now written (Ok end)) typed_is c.in_ok-round.ensures in
    among_more c.args.typed before mid after out now c.rounds.run c.rounds.invariant c.run_round.new.run written end done.0 done.1 c.if-round.false
