-- The item in the middle tells on which side of it to go on.
use Rattle.std.proofs.Common.{arith, ◌≡◌, ◌∙◌, ◌<◌, ◌≤◌, ◌+◌, ◌-◌, ◌/◌, ℕ, List, length, map, get_or, ap, sym}
use Rattle.std.proofs.lemmas.List.{length-map}
use Rattle.ecf_lang.specs.declared.cell.Cell.{Cell}
use Rattle.ecf_lang.specs.Store.{cell_cmp}
use Rattle.ecf_stores.specs.OrderLaws.{cell_order_is_exact}
use Rattle.ecf_versions.proofs.OrderLaws.{turn_back}
use Rattle.ecf_versions.proofs.SearchLaws.{below_up_to, above_from, found, key_at, gap}
use Rattle.ecf_versions.proofs.search.search.Goals as goal

pub loop-low-preserved-in-Less : goal.loop-low-preserved-in-Less
loop-low-preserved-in-Less g c =
    let cells : List Cell = map g.K.Keyed.key c.args.items.now in
    let middle : ℕ = c.loop-low.low + (c.loop-low.high - c.loop-low.low) / 2 in
    let inside : middle < c.loop-low.high = omega arith in
    let within : middle < length cells = omega (arith, length-map c.args.items.now g.K.Keyed.key, c.loop-low.invariant.1) in
    let here : get_or cells middle c.key.result ≡ c.key.result = key_at g.K.Keyed.key c.args.items.now middle c.index-items-middle.result c.key.result c.index-items-middle.is c.key.ensures in
    (omega arith, c.loop-low.invariant.1, below_up_to cells c.args.cell middle c.key.result c.requires within (ap (λ k. cell_cmp k c.args.cell) here ∙ sym c.in-Less.ensures), c.loop-low.invariant.3)

pub returns-in-Equal : goal.returns-in-Equal
returns-in-Equal g c =
    let cells : List Cell = map g.K.Keyed.key c.args.items.now in
    let middle : ℕ = c.loop-low.low + (c.loop-low.high - c.loop-low.low) / 2 in
    let inside : middle < c.loop-low.high = omega arith in
    let within : middle < length cells = omega (arith, length-map c.args.items.now g.K.Keyed.key, c.loop-low.invariant.1) in
    let here : get_or cells middle c.key.result ≡ c.key.result = key_at g.K.Keyed.key c.args.items.now middle c.index-items-middle.result c.key.result c.index-items-middle.is c.key.ensures in
    found cells c.args.cell middle c.key.result c.requires within (here ∙ cell_order_is_exact c.key.result c.args.cell (sym c.in-Equal.ensures))

pub loop-low-preserved : goal.loop-low-preserved
loop-low-preserved g c =
    let cells : List Cell = map g.K.Keyed.key c.args.items.now in
    let middle : ℕ = c.loop-low.low + (c.loop-low.high - c.loop-low.low) / 2 in
    let inside : middle < c.loop-low.high = omega arith in
    let within : middle < length cells = omega (arith, length-map c.args.items.now g.K.Keyed.key, c.loop-low.invariant.1) in
    let here : get_or cells middle c.key.result ≡ c.key.result = key_at g.K.Keyed.key c.args.items.now middle c.index-items-middle.result c.key.result c.index-items-middle.is c.key.ensures in
    (omega arith, omega (arith, c.loop-low.invariant.1), c.loop-low.invariant.2, above_from cells c.args.cell middle c.key.result c.requires within (turn_back (get_or cells middle c.key.result) c.args.cell (ap (λ k. cell_cmp k c.args.cell) here ∙ sym c.in-Greater.ensures)))

pub returns : goal.returns
returns g c =
    let cells : List Cell = map g.K.Keyed.key c.args.items.now in
    let within : c.loop-low.high ≤ length cells = omega (arith, length-map c.args.items.now g.K.Keyed.key, c.loop-low.invariant.1) in
    gap cells c.args.cell c.loop-low.low c.loop-low.high c.loop-low.invariant.0 (omega arith) within c.loop-low.invariant.2 c.loop-low.invariant.3
