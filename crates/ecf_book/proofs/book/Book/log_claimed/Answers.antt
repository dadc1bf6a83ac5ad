use Rattle.std.proofs.Common.{◌≡◌, ℕ, suc, ◌+◌, Some, refl, sym, subst, arith}
use Rattle.ecf_core.specs.declared.book.LogWhat.TheVariants as log
use Rattle.ecf_core.specs.Book.{claimable_row}
use Rattle.ecf_book.specs.Recorded.{Recorded, opening_of, state_of}
use Rattle.ecf_book.specs.Steps.{entry}
use Rattle.ecf_book.proofs.ReplyLaws.{claimed_in}
use Rattle.ecf_book.proofs.StepLaws.{log_room, keeps_one, claimed, claim_ready, short_history}
use Rattle.ecf_book.proofs.book.Book.log_claimed.Goals as goal

abbrev FirstIs : ℕ → Recorded → Type 0
FirstIs r b = claimable_row (opening_of b.setup) (state_of b) ≡ Some r

pub overflow_add-ticket : goal.overflow_add-ticket
overflow_add-ticket c =
    let first = subst (FirstIs c.args.row) (sym c.self.view_is) c.requires in
    let m = c.self.invariant.holds.matches in
    let tickets = m.tickets in
    let few = m.few_tickets in
    let short = short_history c.few_entries.ensures _ _ (entry c.args.row (suc _) log.Claimed) c.self.invariant.holds (first, refl) in
    omega (arith, tickets, few, short)

pub claim-requires : goal.claim-requires
claim-requires c =
    let first = subst (FirstIs c.args.row) (sym c.self.view_is) c.requires in
    claim_ready _ _ c.args.row c.self.invariant.holds first

pub push_reserved-requires : goal.push_reserved-requires
push_reserved-requires c =
    let first = subst (FirstIs c.args.row) (sym c.self.view_is) c.requires in
    let room = log_room c.few_entries.ensures _ _ _ _ (entry c.args.row (suc _) log.Claimed) c.self.invariant (first, refl) in
    omega (arith, room, c.self.inside.log.ok.0)

pub invariant_of-self : goal.invariant_of-self
invariant_of-self c =
    let first = subst (FirstIs c.args.row) (sym c.self.view_is) c.requires in
    let m = c.self.invariant.holds.matches in
    let tickets = m.tickets in
    let next : c.self.inside.tickets + 1 ≡ suc _ = omega (arith, tickets) in
    keeps_one _ _ _ _ _ _ _ _ _ _ (entry c.args.row (c.self.inside.tickets + 1) log.Claimed) c.push_reserved.ensures.items refl c.push_reserved.ensures.capacity c.self.invariant (first, next)
    (claimed _ _ _ c.args.row (c.self.inside.tickets + 1) (c.self.inside.tickets + 1) _ _ m next c.claim.ensures)

pub returns-clause-held : goal.returns-clause-held
returns-clause-held c =
    let first = subst (FirstIs c.args.row) (sym c.self.view_is) c.requires in
    claimed_in _ _ _ _ _ c.args.row (c.self.inside.tickets + 1) c.push_reserved.ensures.items c.self.invariant.holds first
