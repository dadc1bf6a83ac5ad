-- A printed event spells itself.
use Rattle.std.proofs.Common.{◌≡◌, ◌<◌, ◌≤◌, ℕ, ◌+◌, ◌*◌, ◌/◌, ◌%◌, Bool, true, false, ◌&&◌, List, [], ◌∷◌, ◌++◌, Option, Some, None, refl, sym, ap, subst, ◌∙◌, arith, append_assoc, append-nil}
use Rattle.std.specs.Prelude.{codes, decimal, nat_lt, IfSome}
use Rattle.std.specs.Char.{is_ascii_digit}
use Rattle.std.proofs.lemmas.Fmt.{decimal_digit, decimal_step}
use Rattle.ecf_core.specs.Core.{actor_of}
use Rattle.ecf_lang.specs.declared.limits.TheConstants.{MAX_ACTORS}
use Rattle.ecf_events.specs.Laws.{SpelledIsSaid}
use Rattle.ecf_events.specs.Spelled.{NumbersActor, SpellsBy, word_of}
use Rattle.ecf_schedule_text.specs.Laws.{PrintedIsSaid}
use Rattle.ecf_schedule_text.specs.Lines.{actor_text, event_text}

digit : (n : ℕ) → n < 10 → is_ascii_digit (48 + n) ≡ true
digit n h = grind arith

one : (n : ℕ) → n < 10 → NumbersActor ((48 + n) ∷ []) n
one n h = record { numeral = ap (λ b. b && true) (digit n h); few = omega arith; value = omega arith; known = omega arith }

two : (n tens ones : ℕ) → n < MAX_ACTORS → tens < 10 → ones < 10 → n ≡ 10 * tens + ones → NumbersActor ((48 + tens) ∷ (48 + ones) ∷ []) n
two n tens ones h low lower is = record { numeral = ap (λ b. b && (is_ascii_digit (48 + ones) && true)) (digit tens low) ∙ ap (λ b. b && true) (digit ones lower); few = omega arith; value = omega arith; known = h }

numbers : (n : ℕ) → n < MAX_ACTORS → NumbersActor (decimal n) n
numbers n h = by (nat_lt n 10) refl where
  by : (b : Bool) → nat_lt n 10 ≡ b → NumbersActor (decimal n) n
  by true e = let low : n < 10 = grind arith in subst (λ ds. NumbersActor ds n) (sym (decimal_digit n low)) (one n low)
  by false e =
      let high : 10 ≤ n = grind arith in
      let tens : n / 10 < 10 = omega arith in
      let ones : n % 10 < 10 = omega arith in
      subst (λ ds. NumbersActor ds n) (sym (decimal_step n high (omega arith) ∙ ap (λ ds. ds ++ (48 + n % 10) ∷ []) (decimal_digit (n / 10) tens)))
      (two n (n / 10) (n % 10) h tens ones (omega arith))

spelled : (word : List ℕ) (o : Option ℕ) → IfSome o (λ actor. actor < MAX_ACTORS) → SpellsBy (word ++ actor_text o) word o
spelled word None known = append-nil word
spelled word (Some actor) known = (decimal actor, numbers actor known, sym (append_assoc word (codes " ") (decimal actor)))

pub printed_is_said : SpelledIsSaid → PrintedIsSaid
printed_is_said spells e known = spells (event_text e) e (spelled (word_of e) (actor_of e) known)
