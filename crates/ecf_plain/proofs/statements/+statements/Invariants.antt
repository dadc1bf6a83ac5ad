use Rattle.std.proofs.Common.{◌≡◌, suc, true, drop}
use Rattle.ecf_lang.specs.declared.typed.TypedStmt.TheVariants as stmt
use Rattle.ecf_plain.specs.Leads.{Comes, done_stmt, done_block, done_stmts, branched, looped, turned}
use Rattle.ecf_plain.specs.Plain.{is_plain, is_plain_stmt, is_plain_block}
use Rattle.ecf_plain.proofs.statements.+statements.Given as goal

-- what there was to do comes to the statements that are left
abbrev pub invariant-run_block-loop-stmt : goal.invariant-run_block-loop-stmt
invariant-run_block-loop-stmt g l = record {
  comes : is_plain_block l.block ≡ true → Comes l.frame (done_block l.block l.fn.locals.top) (done_stmts (drop l.stmt-index l.stmt-items) l.locals.top) l.fn.state l.state;
  below : l.locals.below ≡ l.fn.locals.below;
}

-- to the arms that are left
abbrev pub invariant-run_stmt-loop-cond : goal.invariant-run_stmt-loop-cond
invariant-run_stmt-loop-cond g l = record {
  is : l.stmt ≡ stmt.If l.cond-items l.last;
  comes : is_plain_stmt l.stmt ≡ true → Comes l.frame (done_stmt l.stmt l.fn.locals.top) (branched (drop l.cond-index l.cond-items) l.last l.locals.top) l.fn.state l.state;
  below : l.locals.below ≡ l.fn.locals.below;
}

-- to the turns that may follow
abbrev pub invariant-repeat-loop-state : goal.invariant-repeat-loop-state
invariant-repeat-loop-state g l = record {
  comes : is_plain l.cond ≡ true → is_plain_block l.body ≡ true → Comes l.frame (looped l.cond l.body l.fn.locals.top) (turned (suc l.turns) l.cond l.body l.locals.top) l.fn.state l.state;
  below : l.locals.below ≡ l.fn.locals.below;
}

abbrev pub decreases-repeat-loop-state : goal.decreases-repeat-loop-state
decreases-repeat-loop-state g l = l.turns
