-- Files at a limit and past it. Numbers are those of tokens.
use Rattle.std.specs.Prelude.{◌≡◌, ℕ, ◌+◌, ◌*◌, ◌/◌, ◌%◌, [], ◌∷◌, ◌++◌, List, map, None, codes}
use Rattle.std.specs.List.{range_with_len}
use Rattle.ecf_lang.specs.declared.tree.Ty.TheVariants.{Num}
use Rattle.ecf_lang.specs.declared.tree.Tree.{Tree}
use Rattle.ecf_lang.specs.declared.tree.Param.{Param}
use Rattle.ecf_lang.specs.declared.tree.Member.{Member}
use Rattle.ecf_lang.specs.declared.tree.Member.TheVariants.{Field, Method}
use Rattle.ecf_lang.specs.declared.tree.Expr.TheVariants as expr
use Rattle.ecf_lang.specs.declared.tree.Stmt.{Stmt}
use Rattle.ecf_lang.specs.declared.tree.Stmt.TheVariants as stmt
use Rattle.ecf_faults.specs.declared.What.TheVariants.{TwoFields, TooManyObjects, TooManyMembers, TooManyLocals}
use Rattle.ecf_faults.specs.Expressions.{fault}
use Rattle.ecf_faults.specs.Declarations.{faults_of_tree}
use Rattle.ecf_faults_cases.specs.Bodies.{block, Has}
use Rattle.ecf_faults_cases.specs.Declared.{ObjectHas}

-- v000, v001, ..
abbrev pub name : ℕ → List ℕ
name n = codes "v" ++ (48 + n / 100) ∷ (48 + n / 10 % 10) ∷ (48 + n % 10) ∷ []

-- so many of these, by their numbers
abbrev pub many : {A : Type 0} → (ℕ → A) → ℕ → List A
many one count = map one (range_with_len 0 count)

-- object v000 { } object v001 { } ..
abbrev pub objects : ℕ → Tree
objects count = record { objects = many (λ n. record { at = 4 * n + 1; name = name n; members = [] }) count }

-- num v000; num v001; ..
abbrev pub fields : ℕ → List Member
fields = many (λ n. Field (3 * n + 4) (name n) Num None)

-- method v000(): num { } method v001(): num { } .., from a token on
abbrev pub methods : ℕ → ℕ → List Member
methods from = many (λ n. Method (from + (8 * n + 1)) (name n) [] Num (block []))

-- v000: num, v001: num, ..
abbrev pub parameters : ℕ → List Param
parameters = many (λ n. record { at = 4 * n + 6; name = name n; ty = Num })

-- let v000: num = 1; let v001: num = 1; .., from a token on
abbrev pub one_let : ℕ → ℕ → Stmt
one_let from n = stmt.Let (from + (7 * n + 1)) (name n) Num (expr.Number (from + (7 * n + 5)) 1)

abbrev pub lets : ℕ → ℕ → List Stmt
lets from = many (one_let from)

-- the 257th object and each after it
pub record ObjectLimit : Type 0 where
  pub within : faults_of_tree (objects 256) ≡ []
  pub past : faults_of_tree (objects 258) ≡ fault 1025 TooManyObjects ∷ fault 1029 TooManyObjects ∷ []

-- the 65th field and the 65th method, and each after it; the two are counted apart
pub record MemberLimits : Type 0 where
  pub within : ObjectHas (fields 64 ++ methods 195 64) []
  pub fields_past : ObjectHas (fields 66) (fault 196 TooManyMembers ∷ fault 199 TooManyMembers ∷ [])
  pub methods_past : ObjectHas (methods 3 66) (fault 516 TooManyMembers ∷ fault 524 TooManyMembers ∷ [])

-- num n; num n; .., of which each but the first has a name that stands earlier
abbrev pub repeated_fields : ℕ → List Member
repeated_fields = many (λ n. Field (3 * n + 4) (codes "n") Num None)

-- declarations count that repeat a name, too
pub record RepeatedCount : Type 0 where
  pub past : ObjectHas (repeated_fields 65) (map (λ n. fault (3 * n + 4) TwoFields) (range_with_len 1 64) ++ fault 196 TooManyMembers ∷ [])

-- the 9th parameter and each after it
pub record ParameterLimit : Type 0 where
  pub within : ObjectHas (Method 4 (codes "m") (parameters 8) Num (block []) ∷ []) []
  pub past : ObjectHas (Method 4 (codes "m") (parameters 10) Num (block []) ∷ []) (fault 38 TooManyLocals ∷ fault 42 TooManyLocals ∷ [])

-- the 65th local, parameters included, and each after it; those of blocks that ended count (the method has one parameter)
pub record LocalLimit : Type 0 where
  pub within : Has (lets 44 63) []
  pub past : Has (lets 44 65) (fault 486 TooManyLocals ∷ fault 493 TooManyLocals ∷ [])
  -- while f { LETS } let x: num = 1;
  pub ended :
      Has
      (stmt.While (expr.Name 45 (codes "f")) (block (lets 47 63))
      ∷ stmt.Let 490 (codes "x") Num (expr.Number 494 1)
      ∷ [])
      (fault 490 TooManyLocals ∷ [])
