-- Lists without elements, types that don't differ, and numbers below a limit.
use Rattle.std.proofs.Common.{◌≡◌, ℕ, ◌<◌, Bool, true, false, List, [], ◌∷◌, ◌++◌, Some, refl, arith, ◌==◌, not, nat_lt}
use Rattle.std.proofs.lemmas.Bool.Decides.{nat_tests}
use Rattle.ecf_lang.specs.declared.tree.Ty.{Ty}
use Rattle.ecf_lang.specs.declared.tree.Ty.TheVariants.{Num, Flag, Addr}
use Rattle.ecf_faults.specs.declared.What.{What}
use Rattle.ecf_faults.specs.Tables.{number_below}
use Rattle.ecf_faults.specs.Expressions.{fault_if, differ, type_faults}

-- ---- two lists that are nothing together

pub none_front : {A : Type 0} (xs ys : List A) → xs ++ ys ≡ [] → xs ≡ []
none_front [] ys none = refl
none_front (x ∷ xs) ys none = absurd cc

pub none_behind : {A : Type 0} (xs ys : List A) → xs ++ ys ≡ [] → ys ≡ []
none_behind [] ys none = none
none_behind (x ∷ xs) ys none = absurd cc

-- ---- no fault

pub not_so : (test : Bool) (token : ℕ) (kind : What) → fault_if test token kind ≡ [] → test ≡ false
not_so false token kind none = refl
not_so true token kind none = absurd cc

pub same_type : (a b : Ty) → differ a b ≡ false → a ≡ b
same_type Num Num same = refl
same_type Num Flag same = absurd cc
same_type Num Addr same = absurd cc
same_type Flag Num same = absurd cc
same_type Flag Flag same = refl
same_type Flag Addr same = absurd cc
same_type Addr Num same = absurd cc
same_type Addr Flag same = absurd cc
same_type Addr Addr same = refl

pub as_required : (want has : Ty) (token : ℕ) → type_faults (Some want) (Some has) token ≡ [] → want ≡ has
as_required want has token none = same_type want has (not_so (differ want has) token _ none)

-- a number below the limit is kept
pub number_kept : (limit n : ℕ) → n < limit → number_below limit n ≡ n
number_kept limit n small = grind (arith, nat_tests)

-- ---- tests of numbers

pub itself : (n : ℕ) → (n == n) ≡ true
itself n = grind (arith, nat_tests)

pub is_below : (n limit : ℕ) → not (nat_lt n limit) ≡ false → n < limit
is_below n limit e = grind (arith, nat_tests)
