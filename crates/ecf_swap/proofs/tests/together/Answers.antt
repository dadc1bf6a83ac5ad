use Rattle.ecf_swap.proofs.WrittenLaws.{distinct_of, listed_of, keeps_of}
use Rattle.ecf_swap.proofs.tests.together.Goals as goal

pub bring_together-requires-clause-distinct : goal.bring_together-requires-clause-distinct
bring_together-requires-clause-distinct c = distinct_of c.args.order.now c.args.steps.now c.requires.fits

pub bring_together-requires-clause-listed : goal.bring_together-requires-clause-listed
bring_together-requires-clause-listed c = listed_of c.args.order.now c.args.steps.now c.requires.fits

pub bring_together-requires-clause-keeps : goal.bring_together-requires-clause-keeps
bring_together-requires-clause-keeps c = keeps_of c.args.order.now c.args.steps.now c.requires.fits
