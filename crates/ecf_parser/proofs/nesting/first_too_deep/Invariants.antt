use Rattle.std.proofs.Common.{◌≡◌, ℕ, ◌<◌, ◌≤◌, take}
use Rattle.std.specs.Prelude.{count_by}
use Rattle.ecf_lang.specs.declared.limits.TheConstants.{MAX_NESTING}
use Rattle.ecf_parser.proofs.NestingLaws.{opens_token, closes_token, depth}
use Rattle.ecf_parser.proofs.nesting.first_too_deep.Given as goal

abbrev pub invariant-loop-at : goal.invariant-loop-at
invariant-loop-at l = record { opened : l.opened ≡ count_by opens_token (take l.at l.tokens); closed : l.closed ≡ count_by closes_token (take l.at l.tokens); shallow : (k : ℕ) → k < l.at → depth l.tokens k ≤ MAX_NESTING }
