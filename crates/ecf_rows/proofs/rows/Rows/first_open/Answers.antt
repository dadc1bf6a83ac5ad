use Rattle.std.proofs.Common.{◌≡◌, false, sym, ap, ◌∙◌, arith}
use Rattle.ecf_core.specs.Book.{is_done}
use Rattle.ecf_rows.specs.Standing.{state_at}
use Rattle.ecf_rows.proofs.FindLaws.{first_is, none_open, may_be_next}
use Rattle.ecf_rows.proofs.rows.Rows.first_open.Goals as goal

pub returns-then-not-is_done-clause-first : goal.returns-then-not-is_done-clause-first
returns-then-not-is_done-clause-first c =
    let opens : is_done (state_at c.args.self.now c.loop-row.row) ≡ false = ap is_done (sym c.state.ensures.state) ∙ sym c.is_done.ensures ∙ c.if-not-is_done.true in
    sym (first_is c.args.self.now c.args.from c.loop-row.row (omega arith) (omega arith) opens c.loop-row.invariant)

pub returns-then-not-is_done-clause-may : goal.returns-then-not-is_done-clause-may
returns-then-not-is_done-clause-may c before =
    let opens : is_done (state_at c.args.self.now c.loop-row.row) ≡ false = ap is_done (sym c.state.ensures.state) ∙ sym c.is_done.ensures ∙ c.if-not-is_done.true in
    may_be_next c.args.self.now c.args.from c.loop-row.row before c.loop-row.invariant opens

pub returns-clause-first : goal.returns-clause-first
returns-clause-first c = sym (none_open c.args.self.now c.args.from c.loop-row.row (omega arith) c.loop-row.invariant)
