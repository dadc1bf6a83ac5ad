-- The queue.
use Rattle.std.proofs.Common.{◌≡◌, ◌<◌, ◌≤◌, Bool, true, false, cond, List, [], ◌∷◌, ◌++◌, length, refl, ap, arith}
use Rattle.std.specs.Prelude.{◌↔◌, nat_lt}
use Rattle.std.proofs.lemmas.Bool.{ltb-true, ltb-false}
use Rattle.ecf_lang.specs.declared.limits.TheConstants.{MAX_QUEUED}
use Rattle.ecf_core.specs.declared.event.Reply.{Reply}
use Rattle.ecf_core.specs.declared.event.Reply.TheVariants as reply
use Rattle.ecf_core.specs.Core.{RowReads, Nothing, Draft, Core, Act, act_beside_book}
use Rattle.ecf_core.specs.Laws.{FullExactlyWhere, EmptyExactlyWhere}
use Rattle.ecf_core.proofs.ListLaws.{false_not_true}

IsFull : Reply → Bool
IsFull reply.Full = true
IsFull other = false

go : (c : Core) (d : RowReads) (b : Bool) → nat_lt (length c.queue) MAX_QUEUED ≡ b → (let s : Act = cond b (act_beside_book reply.Handed Nothing (c.queue ++ d ∷ [])) (act_beside_book reply.Full (Draft d) c.queue) in (s.reply ≡ reply.Full ↔ MAX_QUEUED ≤ length c.queue) × (length c.queue < MAX_QUEUED → s.queue ≡ c.queue ++ d ∷ []))
unfolding IsFull
go c d true e = ((λ f. false_not_true refl (ap IsFull f), λ l. absurd (omega (arith, l, ltb-true (length c.queue) MAX_QUEUED e))), λ l. refl)
go c d false e = ((λ f. omega (arith, ltb-false (length c.queue) MAX_QUEUED e), λ l. refl), λ l. absurd (omega (arith, l, lower)))
  where
    lower : MAX_QUEUED ≤ length c.queue
    lower = ltb-false (length c.queue) MAX_QUEUED e

pub full_exactly_where : FullExactlyWhere
full_exactly_where c d = go c d (nat_lt (length c.queue) MAX_QUEUED) refl

IsEmpty : Reply → Bool
IsEmpty reply.Empty = true
IsEmpty other = false

pub empty_exactly_where : EmptyExactlyWhere
unfolding IsEmpty
empty_exactly_where [] = (λ e. refl, λ e. refl)
empty_exactly_where (d ∷ queue) = (λ e. false_not_true refl (ap IsEmpty e), λ e. absurd (omega (arith, ap (λ (l : List RowReads). length l) e)))
