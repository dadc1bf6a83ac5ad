use Rattle.std.proofs.Common.{◌<◌, arith}
use Rattle.std.proofs.lemmas.Grind.{common_steps}
use Rattle.ecf_lang.specs.declared.limits.TheConstants.{MAX_NESTING}
use Rattle.ecf_parser.proofs.NestingLaws.{depth, all_shallow, first_deep}
use Rattle.ecf_parser.proofs.nesting.first_too_deep.Goals as goal

pub returns-clause-none : goal.returns-clause-none
returns-clause-none c = λ source. all_shallow source c.args.tokens.now (λ k below. c.loop-at.invariant.shallow k (omega arith))

pub returns-then-saturating_sub-gt-MAX_NESTING-clause-some : goal.returns-then-saturating_sub-gt-MAX_NESTING-clause-some
returns-then-saturating_sub-gt-MAX_NESTING-clause-some c =
    let deep : MAX_NESTING < depth c.args.tokens.now c.loop-at.at = grind (arith, common_steps) in
    λ source. first_deep source c.args.tokens.now c.loop-at.at (omega arith) deep c.loop-at.invariant.shallow
