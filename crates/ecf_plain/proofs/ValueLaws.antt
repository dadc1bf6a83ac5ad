-- What the values of expressions come from.
use mir.Val.{bool_byte}
use Rattle.std.proofs.lemmas.Bool.Decides.{nat_tests}
use Rattle.std.proofs.Common.{◌≡◌, ℕ, zero, suc, ◌+◌, ◌-◌, ◌<◌, ◌≤◌, false, eqb, List, [], ◌∷◌, length, get_or, map, take, drop, refl, ap, sym, ◌∙◌, arith}
use Rattle.ecf_lang.specs.declared.cell.Cell.{Cell}
use Rattle.ecf_lang.specs.declared.costs.TheConstants.{OPERATOR, TEST}
use Rattle.ecf_lang.specs.declared.tree.Op.{Op}
use Rattle.ecf_lang.specs.declared.typed.TypedExpr.{TypedExpr}
use Rattle.ecf_lang.specs.Store.{Store}
use Rattle.ecf_lang.specs.Part.{State, Control, Done, Exit, Part, after, pure, pay, read_cell, write_cell}
use Rattle.ecf_lang.specs.Meaning.{Frame, value_of, charge, chain, all_true, any_true, at_zero, op_value, or_revert}
use Rattle.ecf_progress.specs.Progress.{Progress}
use Rattle.ecf_plain.specs.Leads.{Reaches, chained, operated, all_of, any_of, all_after, any_after}
use Rattle.ecf_plain.proofs.PlainLaws.{left_more}

-- a read and a write, from what the state's calls ensure
pub reads : (store : Store) (inv : ℕ) (cell cell' : Cell) (value : ℕ) (old new : Progress) → old.backing.store ≡ store → cell' ≡ cell → read_cell old.backing.store inv cell' old.run ≡ Done value new.run → new.backing ≡ old.backing → new.run.fuel ≡ old.run.fuel
    → Reaches (read_cell store inv cell old.run) (Done value new.run) old new
reads store inv cell cell' value old new stored same read backing fuel = record {
  same = ap (λ store. read_cell store inv cell old.run) (sym stored) ∙ ap (λ cell. read_cell old.backing.store inv cell old.run) (sym same) ∙ read;
  backing = backing;
  spends = omega (arith, fuel);
}

pub writes : (inv : ℕ) (cell cell' : Cell) (value : ℕ) (old new : Progress) → cell' ≡ cell → write_cell inv cell' value old.run ≡ Done tt new.run → new.backing ≡ old.backing → new.run.fuel ≡ old.run.fuel → Reaches (write_cell inv cell value old.run) (Done tt new.run) old new
writes inv cell cell' value old new same write backing fuel = record {
  same = ap (λ cell. write_cell inv cell value old.run) (sym same) ∙ write;
  backing = backing;
  spends = omega (arith, fuel);
}

-- a `!` as the code has it
pub turned_round : (n : ℕ) → at_zero n 1 0 ≡ bool_byte (eqb n 0)
turned_round zero = refl
turned_round (suc n) = let e : eqb (suc n) 0 ≡ false = grind (arith, nat_tests) in rw e refl

-- three parts in a row
pub after_both : {A B C : Type 0} (control : Control A) (f : A → Part B) (g : B → Part C) → after control (λ a s. after (f a s) g) ≡ after (after control f) g
after_both (Done a s) f g = refl
after_both (Exit halt s) f g = refl

-- a number that is 0, and one that isn't
pub at_zero_zero : {A : Type 0} (n : ℕ) (a b : A) → n ≡ 0 → at_zero n a b ≡ a
at_zero_zero zero a b is = refl
at_zero_zero (suc n) a b is = absurd (omega (arith, is))

pub at_zero_above : {A : Type 0} (n : ℕ) (a b : A) → 0 < n → at_zero n a b ≡ b
at_zero_above zero a b above = absurd (omega (arith, above))
at_zero_above (suc n) a b above = refl

module _ (store : Store) (frame : Frame) (locals : List ℕ) where
  -- the next further part of a sum or product
  pub chain_more : (parts : List (Op × TypedExpr)) (i : ℕ) (part : Op × TypedExpr) (x : ℕ) (s : State) → i < length parts → part ≡ get_or parts i part
      → chained locals x (drop i parts) store frame s ≡ after (value_of store frame locals part.1 s) (λ y s1. after (operated x part.0 y store frame s1) (λ z. chained locals z (drop (i + 1) parts) store frame))
  chain_more parts i part x s within is =
      ap (λ ps. chained locals x ps store frame s) (left_more parts i part within is)
      ∙ ap (after (value_of store frame locals part.1 s)) (λ j y s1. after_both (pay frame.inv OPERATOR s1) (λ _. or_revert (op_value part.0 x y)) (λ z. chained locals z (drop (i + 1) parts) store frame) j)

  -- the next part of an `&&` or `||`
  pub all_more : (parts : List TypedExpr) (i : ℕ) (part : TypedExpr) (x : ℕ) (s : State) → i < length parts → part ≡ get_or parts i part
      → all_after locals x (drop i parts) store frame s ≡ after (charge store frame TEST s) (λ _. at_zero x (pure x) (λ s1. after (value_of store frame locals part s1) (λ y. all_after locals y (drop (i + 1) parts) store frame)))
  all_more parts i part x s within is = ap (λ ps. all_after locals x ps store frame s) (left_more parts i part within is)

  pub any_more : (parts : List TypedExpr) (i : ℕ) (part : TypedExpr) (x : ℕ) (s : State) → i < length parts → part ≡ get_or parts i part
      → any_after locals x (drop i parts) store frame s ≡ after (charge store frame TEST s) (λ _. at_zero x (λ s1. after (value_of store frame locals part s1) (λ y. any_after locals y (drop (i + 1) parts) store frame)) (pure x))
  any_more parts i part x s within is = ap (λ ps. any_after locals x ps store frame s) (left_more parts i part within is)
