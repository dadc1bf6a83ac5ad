use Rattle.std.proofs.Common.{◌≡◌, ℕ, Option, Some, None, subst}
use Rattle.ecf_core.specs.Book.{claimable_row}
use Rattle.ecf_core.specs.Calls.{claim, claim_answer}
use Rattle.ecf_book.specs.Answering.{said_by_claim}
use Rattle.ecf_book.specs.Recorded.{Recorded, opening_of, state_of}
use Rattle.ecf_book.proofs.ReplyLaws.{least_held, claim_by, due}
use Rattle.ecf_book.proofs.book.Book.claim.Goals as goal

abbrev FirstIs : Option ℕ → Recorded → Type 0
FirstIs x b = claimable_row (opening_of b.setup) (state_of b) ≡ x

pub claim_row-requires : goal.claim_row-requires
claim_row-requires c = subst (FirstIs (Some c.in-Some.row)) c.self.view_is (least_held _ _ (Some c.in-Some.row) c.self.invariant.holds c.in-Some.ensures.least)

pub returns-in-Some-clause-answer : goal.returns-in-Some-clause-answer
returns-in-Some-clause-answer c =
    let first = subst (FirstIs (Some c.in-Some.row)) c.self.view_is (least_held _ _ (Some c.in-Some.row) c.self.invariant.holds c.in-Some.ensures.least) in
    let o = opening_of c.args.self.now.setup in
    let s = state_of c.args.self.now in
    due (claim_answer s (Some c.in-Some.row)) (claim o s) (said_by_claim c.claim_row.result) c.args.self.now c.claim_row.new.self (claim_by o s (Some c.in-Some.row) first) c.claim_row.ensures.answer

pub returns-in-None-clause-answer : goal.returns-in-None-clause-answer
returns-in-None-clause-answer c =
    let first = subst (FirstIs None) c.self.view_is (least_held _ _ None c.self.invariant.holds c.in-None.ensures.least) in
    let o = opening_of c.args.self.now.setup in
    let s = state_of c.args.self.now in
    due (claim_answer s None) (claim o s) (said_by_claim c.later_or_over.result) c.args.self.now c.later_or_over.new.self (claim_by o s None first) c.later_or_over.ensures.answer
