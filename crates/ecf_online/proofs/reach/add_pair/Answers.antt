use Rattle.std.proofs.Common.{◌≡◌, sym, refl, ◌∙◌}
use Rattle.ecf_graph.specs.Rows.{is_in_row}
use Rattle.ecf_online.proofs.ClosureLaws.{closure_pair, closure_reached, ready_within, shaped_spread, reaching_pair}
use Rattle.ecf_online.proofs.reach.add_pair.Goals as goal

pub returns-then-row_contains-clause-closure : goal.returns-then-row_contains-clause-closure
returns-then-row_contains-clause-closure c r h =
    let e : is_in_row c.args.rows.now.items c.args.j c.args.i ≡ is_in_row c.as_slice.result.now c.args.j c.args.i = rw c.as_slice.ensures.value refl in
    closure_reached c.one_pair_more.ensures r c.args.i c.args.j c.args.rows.now.items (e ∙ (sym c.row_contains.ensures ∙ c.if-row_contains.true)) h

pub returns-clause-closure : goal.returns-clause-closure
returns-clause-closure c r h = closure_pair c.one_pair_more.ensures r c.args.i c.args.j c.args.rows.now.items c.spread.new.rows.items (ready_within c.args.rows.now.items c.args.j c.requires.ready.1) c.spread.ensures.spread h

pub returns-clause-shaped : goal.returns-clause-shaped
returns-clause-shaped c = shaped_spread c.args.rows.now.items c.args.i c.args.j c.spread.new.rows.items c.requires.shaped c.requires.ready c.spread.ensures.spread c.spread.ensures.words

pub put-requires : goal.put-requires
put-requires c = c.requires.room c.args.i c.requires.ready.0

pub returns-clause-reaching : goal.returns-clause-reaching
returns-clause-reaching c = reaching_pair c.args.rows.now.items c.args.i c.args.j c.spread.new.rows.items c.args.reaching.now c.put.new.self (ready_within c.args.rows.now.items c.args.j c.requires.ready.1) c.spread.ensures.spread c.put.ensures.put c.requires.reaching
