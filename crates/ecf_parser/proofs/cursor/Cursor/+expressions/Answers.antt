use Rattle.std.proofs.Common.{rules}
use Rattle.ecf_parser.proofs.LoopLaws.{terms_exit, terms_keep, factors_exit, factors_keep}
use Rattle.ecf_parser.proofs.cursor.Cursor.+expressions.Goals as goal

pub terms-terms-preserved : goal.terms-terms-preserved
terms-terms-preserved t c = record { same = terms_keep _ _ _ _ _ _ _ _ c.terms.invariant.same c.in-Some.ensures.read c.in_ok-product.ensures.read c.in_ok-push.ensures.ok; no_more = search rules }

pub terms-returns-clause-read : goal.terms-returns-clause-read
terms-returns-clause-read t c = terms_exit _ _ _ _ c.terms.invariant.same c.in_default.ensures.read

pub factors-factors-preserved : goal.factors-factors-preserved
factors-factors-preserved t c = record { same = factors_keep _ _ _ _ _ _ _ _ c.factors.invariant.same c.in-Some.ensures.read c.in_ok-unary.ensures.read c.in_ok-push.ensures.ok; no_more = search rules }

pub factors-returns-clause-read : goal.factors-returns-clause-read
factors-returns-clause-read t c = factors_exit _ _ _ _ c.factors.invariant.same c.in_default.ensures.read
