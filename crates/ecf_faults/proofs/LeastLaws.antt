-- What going through a list of faults leaves is its first fault.
use Rattle.std.proofs.Common.{◌≡◌, ℕ, suc, Bool, true, false, ◌&&◌, ◌||◌, List, [], ◌∷◌, Some, None, ◌⊎◌, inl, inr, refl, sym, subst, arith, All, if◌then◌else◌}
use Rattle.std.specs.Prelude.{nat_lt, ◌==◌}
use Rattle.std.specs.List.{Contains}
use Rattle.std.proofs.lemmas.Bool.Decides.{nat_tests}
use Rattle.std.proofs.lemmas.List.Elements.{All-nil, All-cons}
use Rattle.ecf_faults.specs.declared.Fault.{Fault}
use Rattle.ecf_faults.specs.Least.{rank, precedes, least_with, IsLeast, LeftIsLeast, LeftOfNone}

-- whether one pair of numbers stands before another
abbrev pair_before : ℕ → ℕ → ℕ → ℕ → Bool
pair_before t r u q = nat_lt t u || (t == u && nat_lt r q)

none_before_either : (t r u q v p : ℕ) → pair_before t r u q ≡ false → pair_before u q v p ≡ false → pair_before t r v p ≡ false
none_before_either t r u q v p a b = grind (arith, nat_tests)

none_before_what_is_over : (t r u q v p : ℕ) → pair_before t r u q ≡ true → pair_before t r v p ≡ false → pair_before u q v p ≡ false
none_before_what_is_over t r u q v p a b = grind (arith, nat_tests)

not_before_itself : (t r : ℕ) → pair_before t r t r ≡ false
not_before_itself t r = grind (arith, nat_tests)

-- what is known of the fault that is left, where the list was begun with one
record IsLeft (f : Fault) (fs : List Fault) (old : Fault) : Type 0 where
  pub one : (f ≡ old) ⊎ Contains fs f
  pub old_is_not_before : precedes old f ≡ false
  pub none_is_before : All (λ other. precedes other f ≡ false) fs

at_front : (f x : Fault) (fs : List Fault) → f ≡ x → Contains (x ∷ fs) f
at_front f x fs e = (0, omega arith, sym e)

behind : (f x : Fault) (fs : List Fault) → Contains fs f → Contains (x ∷ fs) f
behind f x fs c = (suc c.0, omega (arith, c.1), c.2)

one_of : (f x : Fault) (fs : List Fault) → (f ≡ x) ⊎ Contains fs f → Contains (x ∷ fs) f
one_of f x fs (inl e) = at_front f x fs e
one_of f x fs (inr c) = behind f x fs c

left_of_more : (f x : Fault) (fs : List Fault) → ((old : Fault) → least_with (Some old) fs ≡ Some f → IsLeft f fs old) → (old : Fault) → least_with (Some old) (x ∷ fs) ≡ Some f → IsLeft f (x ∷ fs) old
left_of_more f x fs rest old e = by_test (precedes x old) refl e
  where
    by_test : (b : Bool) → precedes x old ≡ b → least_with (if b then Some x else Some old) fs ≡ Some f → IsLeft f (x ∷ fs) old
    by_test true h e = let k = rest x e in record {
      one = inr (one_of f x fs k.one);
      old_is_not_before = none_before_what_is_over x.token (rank x.what) old.token (rank old.what) f.token (rank f.what) h k.old_is_not_before;
      none_is_before = All-cons (λ other. precedes other f ≡ false) x fs k.old_is_not_before k.none_is_before;
    }
    by_test false h e = let k = rest old e in record {
      one = still k.one;
      old_is_not_before = k.old_is_not_before;
      none_is_before = All-cons (λ other. precedes other f ≡ false) x fs (none_before_either x.token (rank x.what) old.token (rank old.what) f.token (rank f.what) h k.old_is_not_before) k.none_is_before;
    }
      where
        still : (f ≡ old) ⊎ Contains fs f → (f ≡ old) ⊎ Contains (x ∷ fs) f
        still (inl e) = inl e
        still (inr c) = inr (behind f x fs c)

left_of_some : (f : Fault) (fs : List Fault) (old : Fault) → least_with (Some old) fs ≡ Some f → IsLeft f fs old
left_of_some f [] old e =
    let same : old ≡ f = cc in
    record {
      one = inl (sym same);
      old_is_not_before = subst (λ (g : Fault). precedes old g ≡ false) same (not_before_itself old.token (rank old.what));
      none_is_before = All-nil (λ other. precedes other f ≡ false);
    }
left_of_some f (x ∷ fs) old e = left_of_more f x fs (left_of_some f fs) old e

pub left_is_least : LeftIsLeast
left_is_least [] f e = let none : ⊥ = cc in absurd none
left_is_least (x ∷ fs) f e =
    let k = left_of_some f fs x e in
    (one_of f x fs k.one, All-cons (λ other. precedes other f ≡ false) x fs k.old_is_not_before k.none_is_before)

never_none : (fs : List Fault) (old : Fault) → least_with (Some old) fs ≡ None → ⊥
never_none [] old e = cc
never_none (x ∷ fs) old e = by_test (never_none fs) (precedes x old) e
  where
    by_test : ((old : Fault) → least_with (Some old) fs ≡ None → ⊥) → (b : Bool) → least_with (if b then Some x else Some old) fs ≡ None → ⊥
    by_test rest true e = rest x e
    by_test rest false e = rest old e

pub left_of_none : LeftOfNone
left_of_none [] e = refl
left_of_none (x ∷ fs) e = absurd (never_none fs x e)
