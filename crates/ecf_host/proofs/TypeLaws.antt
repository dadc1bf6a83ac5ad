-- What the check of types answers, as a stage; that there is one first fault; and what is known of a contract.
use Rattle.std.proofs.Common.{◌≡◌, ℕ, zero, suc, Bool, false, ◌||◌, ◌&&◌, List, [], Ok, Err, refl, ap, sym, subst, ◌∙◌, arith}
use Rattle.std.proofs.lemmas.Bool.Decides.{nat_tests}
use Rattle.std.proofs.lemmas.List.Elements.{All-contains}
use Rattle.std.specs.Prelude.{nat_lt, ◌==◌}
use Rattle.std.specs.List.{Contains}
use Rattle.ecf_lang.specs.declared.tree.Tree.{Tree}
use Rattle.ecf_lang.specs.declared.typed.Typed.{Typed}
use Rattle.ecf_faults.specs.declared.What.{What}
use Rattle.ecf_faults.specs.declared.What.TheVariants as what
use Rattle.ecf_faults.specs.declared.Fault.{Fault}
use Rattle.ecf_faults.specs.Declarations.{faults_of_tree, numbered_form}
use Rattle.ecf_faults.specs.Least.{rank, precedes, IsLeast}
use Rattle.ecf_typing.specs.declared.file.TypeFault.{TypeFault}
use Rattle.ecf_typing.specs.declared.file.TypeFault.TheVariants as typing
use Rattle.ecf_typing.specs.Checks.{Checks}
use Rattle.ecf_heap.specs.Numbered.{IsWithinLimits}
use Rattle.ecf_wellformed.specs.WellFormed.{IsWellFormed}
use Rattle.ecf_welltyped.specs.Laws.{NumberedFormIsWellFormed}
use Rattle.ecf_host.specs.Contract.{typed, contract}
use Rattle.ecf_host.specs.Failures.{IfRefused, failure_of_typing}
use Rattle.ecf_host.specs.Stages.◌▷◌.{went_on}

pub check_refused : (tree : Tree) (fault : TypeFault) → Checks (faults_of_tree tree) (numbered_form tree) (Err fault) → IfRefused (failure_of_typing fault) (λ refusal. typed tree (Err refusal))
check_refused tree (typing.At token what) is = is
check_refused tree typing.NoMemory is = tt

-- ---- one least fault

-- the kind of a place among the kinds
kind_at : ℕ → What
kind_at zero = what.TwoObjects
kind_at (suc zero) = what.TwoFields
kind_at (suc (suc zero)) = what.TwoMethods
kind_at (suc (suc (suc zero))) = what.TwoLocals
kind_at (suc (suc (suc (suc zero)))) = what.TwoSignatures
kind_at (suc (suc (suc (suc (suc zero))))) = what.TwoKeys
kind_at (suc (suc (suc (suc (suc (suc zero)))))) = what.TooManyObjects
kind_at (suc (suc (suc (suc (suc (suc (suc zero))))))) = what.TooManyMembers
kind_at (suc (suc (suc (suc (suc (suc (suc (suc zero)))))))) = what.TooManyLocals
kind_at (suc (suc (suc (suc (suc (suc (suc (suc (suc zero))))))))) = what.UnknownName
kind_at (suc (suc (suc (suc (suc (suc (suc (suc (suc (suc zero)))))))))) = what.Misused
kind_at (suc (suc (suc (suc (suc (suc (suc (suc (suc (suc (suc zero))))))))))) = what.UnknownMethod
kind_at (suc (suc (suc (suc (suc (suc (suc (suc (suc (suc (suc (suc zero)))))))))))) = what.WrongArity
kind_at _ = what.WrongType

at_rank : (w : What) → kind_at (rank w) ≡ w
unfolding kind_at
at_rank what.TwoObjects = refl
at_rank what.TwoFields = refl
at_rank what.TwoMethods = refl
at_rank what.TwoLocals = refl
at_rank what.TwoSignatures = refl
at_rank what.TwoKeys = refl
at_rank what.TooManyObjects = refl
at_rank what.TooManyMembers = refl
at_rank what.TooManyLocals = refl
at_rank what.UnknownName = refl
at_rank what.Misused = refl
at_rank what.UnknownMethod = refl
at_rank what.WrongArity = refl
at_rank what.WrongType = refl

-- whether one pair of numbers stands before another
abbrev pair_before : ℕ → ℕ → ℕ → ℕ → Bool
pair_before t r u q = nat_lt t u || (t == u && nat_lt r q)

-- of two pairs neither of which stands before the other
firsts_same : (t r u q : ℕ) → pair_before t r u q ≡ false → pair_before u q t r ≡ false → t ≡ u
firsts_same t r u q a b = grind (arith, nat_tests)

seconds_same : (t r u q : ℕ) → pair_before t r u q ≡ false → pair_before u q t r ≡ false → r ≡ q
seconds_same t r u q a b = grind (arith, nat_tests)

same_fault : (a b : Fault) → a.token ≡ b.token → rank a.what ≡ rank b.what → a ≡ b
same_fault a b token kind =
    let what : a.what ≡ b.what = sym (at_rank a.what) ∙ (ap kind_at kind ∙ at_rank b.what) in
    ap (λ (x : ℕ). let f : Fault = record { token = x; what = a.what } in f) token
    ∙ ap (λ (x : What). let f : Fault = record { token = b.token; what = x } in f) what

one_place : (a b : Fault) → precedes a b ≡ false → precedes b a ≡ false → a ≡ b
one_place a b first second =
    same_fault a b (firsts_same a.token (rank a.what) b.token (rank b.what) first second) (seconds_same a.token (rank a.what) b.token (rank b.what) first second)

-- a first fault is the only one
pub one_least : (faults : List Fault) (a b : Fault) → IsLeast a faults → IsLeast b faults → a ≡ b
one_least faults a b first second =
    one_place a b (All-contains (λ other. precedes other b ≡ false) faults a second.1 first.0) (All-contains (λ other. precedes other a ≡ false) faults b first.1 second.0)

-- where there is no fault, none is the first
pub none_least : (faults : List Fault) → faults ≡ [] → (f : Fault) → IsLeast f faults → ⊥
none_least faults empty f least = let none = subst (λ fs. Contains fs f) empty least.0 in omega (arith, none.1)

-- ---- what is known of a contract

-- what a text is as a contract is well formed
pub contract_is_well_formed : NumberedFormIsWellFormed → (text : List ℕ) (made : Typed) → contract text (Ok made) → IsWellFormed made
contract_is_well_formed law text made (went_on tokens _ reads (went_on tree _ spelled checked)) =
    subst IsWellFormed (sym checked.1) (law text tokens tree reads spelled.spelled checked.0)

-- a well-formed contract has no more objects and fields than a cell can number
pub well_formed_within_limits : (typed : Typed) → IsWellFormed typed → IsWithinLimits typed
well_formed_within_limits typed formed = record { few_objects = formed.few_objects; few_fields = λ k d within. (formed.objects k d within).few_fields }
