use Rattle.std.proofs.Common.{◌≡◌, ◌||◌, ◌==◌, refl, sym, ◌∙◌, arith}
use Rattle.ecf_graph.specs.Rows.{is_in_row}
use Rattle.ecf_online.proofs.ClosureLaws.{Joins, room_at, spread_join, spread_skip}
use Rattle.ecf_online.proofs.reach.spread_far.Goals.{then-is_reached, else-is_reached}
use Rattle.ecf_online.proofs.reach.spread_far.Goals as goal

pub join_row-requires-clause-members : goal.join_row-requires-clause-members
join_row-requires-clause-members c =
    let test : c.is_reached.result ≡ ((c.loop-k.k == c.args.j) || is_in_row c.loop-k.rows.items c.loop-k.k c.args.j) = c.is_reached.ensures ∙ (rw c.as_slice.ensures.value refl) in
    (room_at c.args.rows.now.items c.args.i c.args.j c.loop-k.rows.items c.loop-k.k c.requires.shaped c.requires.ready (sym test ∙ c.if-is_reached.true) c.loop-k.invariant).members

pub join_row-requires-clause-own : goal.join_row-requires-clause-own
join_row-requires-clause-own c =
    let test : c.is_reached.result ≡ ((c.loop-k.k == c.args.j) || is_in_row c.loop-k.rows.items c.loop-k.k c.args.j) = c.is_reached.ensures ∙ (rw c.as_slice.ensures.value refl) in
    (room_at c.args.rows.now.items c.args.i c.args.j c.loop-k.rows.items c.loop-k.k c.requires.shaped c.requires.ready (sym test ∙ c.if-is_reached.true) c.loop-k.invariant).own

pub loop-k-preserved : goal.loop-k-preserved
loop-k-preserved c =
    let test : c.is_reached.result ≡ ((c.loop-k.k == c.args.j) || is_in_row c.loop-k.rows.items c.loop-k.k c.args.j) = c.is_reached.ensures ∙ (rw c.as_slice.ensures.value refl) in
    elim c.if-is_reached.branch [
      | then-is_reached w ↦
          let joins : Joins c.loop-k.rows.items c.loop-k.k c.args.i w.join_row.new.rows.items = record { joined = w.join_row.ensures.joined; words = w.join_row.ensures.words; long = grind arith } in
          rw w.rows-is (spread_join c.args.rows.now.items c.args.i c.args.j c.loop-k.rows.items w.join_row.new.rows.items c.loop-k.k (sym test ∙ w.if-is_reached.true) joins c.loop-k.invariant)
      | else-is_reached w ↦ rw w.rows-is (spread_skip c.args.rows.now.items c.args.i c.args.j c.loop-k.rows.items c.loop-k.k (sym test ∙ w.if-is_reached.false) c.loop-k.invariant)
    ]
