use Rattle.std.proofs.Common.{sym, ◌∙◌, arith}
use Rattle.ecf_online.proofs.ClosureLaws.{Joins, no_row_has, ready_within, spread_near}
use Rattle.ecf_online.proofs.reach.spread.Goals as goal

pub join_row-requires-clause-k : goal.join_row-requires-clause-k
join_row-requires-clause-k c = (let l = ready_within c.args.rows.now.items c.args.j c.requires.ready.1 in grind (arith, l))

pub join_row-requires-clause-i : goal.join_row-requires-clause-i
join_row-requires-clause-i c = (let l = ready_within c.args.rows.now.items c.args.i c.requires.ready.0 in grind (arith, l))

pub join_row-requires-clause-members : goal.join_row-requires-clause-members
join_row-requires-clause-members c a e = c.requires.shaped.wide c.args.j a c.requires.ready.1 (c.requires.shaped.members c.args.i a e)

pub join_row-requires-clause-own : goal.join_row-requires-clause-own
join_row-requires-clause-own c = c.requires.shaped.wide c.args.j c.args.i c.requires.ready.1 c.requires.ready.0

pub returns-else-contains-clause-spread : goal.returns-else-contains-clause-spread
returns-else-contains-clause-spread c =
    let rows = c.args.rows.now.items in
    let joins : Joins rows c.args.j c.args.i c.join_row.new.rows.items = record { joined = c.join_row.ensures.joined; words = c.join_row.ensures.words; long = grind arith } in
    spread_near rows c.args.i c.args.j c.join_row.new.rows.items (no_row_has rows c.args.reaching.now c.args.j c.requires.reaching (sym c.contains.ensures ∙ c.if-contains.false)) joins
