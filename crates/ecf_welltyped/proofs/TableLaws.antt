-- What is declared in a table, and what one more declaration adds.
use Rattle.std.proofs.Common.{◌≡◌, ◌≢◌, ℕ, zero, suc, ◌+◌, ◌≤◌, Bool, true, false, ◌||◌, cond, if◌then◌else◌, List, [], ◌∷◌, ◌++◌, map, length, Option, Some, None, is_some, refl, sym, subst, ap, ◌∙◌, arith, ◌⊎◌, inl, inr, AllPairs}
use Rattle.std.specs.Prelude.{slice_get}
use Rattle.std.specs.List.{AllByRecursion, fold, list_any}
use Rattle.std.specs.Str.{bytes_eq}
use Rattle.std.proofs.lemmas.Slice.Eq.{bytes_eq-Decides}
use Rattle.std.proofs.lemmas.List.{length_push, append_assoc, append-nil}
use Rattle.std.proofs.lemmas.List.Elements.{All-from_recursion}
use Rattle.ecf_faults.specs.declared.What.{What}
use Rattle.ecf_faults.specs.Tables.{Table, declaration_of, with_declaration, with_next, table_of}
use Rattle.ecf_faults.specs.Expressions.{fault_if}
use Rattle.ecf_faults.specs.Declarations.{Declaration, repeat_faults}
use Rattle.ecf_welltyped.proofs.ListLaws.{none_front, none_behind, not_so}

-- ---- one more declaration

last_by : {A : Type 0} (same : Bool) (a b : A) → cond same (Some a) None ≡ Some b → (None ≡ Some b) ⊎ (a ≡ b)
last_by true a b e = inr (grind arith)
last_by false a b e = inl e

appended_by : {A : Type 0} (same : Bool) (first a b : A) (whole rest : Option A) → cond same (Some first) whole ≡ Some b → (whole ≡ Some b → (rest ≡ Some b) ⊎ (a ≡ b)) → (cond same (Some first) rest ≡ Some b) ⊎ (a ≡ b)
appended_by true first a b whole rest e behind = inl e
appended_by false first a b whole rest e behind = behind e

appended : {A : Type 0} (table : Table A) (name : List ℕ) (a : A) (other : List ℕ) (b : A) → declaration_of (table ++ (name, a) ∷ []) other ≡ Some b → (declaration_of table other ≡ Some b) ⊎ (a ≡ b)
appended [] name a other b e = last_by (bytes_eq other name) a b e
appended (one ∷ others) name a other b e =
    appended_by (bytes_eq other one.0) one.1 a b (declaration_of (others ++ (name, a) ∷ []) other) (declaration_of others other) e (appended others name a other b)

one_more_by : {A : Type 0} (there : Bool) (table : Table A) (name : List ℕ) (a : A) (other : List ℕ) (b : A) → declaration_of (if there then table else table ++ (name, a) ∷ []) other ≡ Some b
    → (declaration_of table other ≡ Some b) ⊎ (a ≡ b)
one_more_by true table name a other b e = inl e
one_more_by false table name a other b e = appended table name a other b e

-- what is declared after one more declaration was declared before, or is that one
pub one_more : {A : Type 0} (table : Table A) (name : List ℕ) (a : A) (other : List ℕ) (b : A) → declaration_of (with_declaration table name a) other ≡ Some b → (declaration_of table other ≡ Some b) ⊎ (a ≡ b)
one_more table name a other b e = one_more_by (is_some (declaration_of table name)) table name a other b e

-- ---- no two the same

abbrev pub Apart : {A : Type 0} → List A → Type 0
Apart [] = Unit {0}
Apart (x ∷ xs) = AllByRecursion (λ y. x ≢ y) xs × Apart xs

pub pairs : {A : Type 0} (xs : List A) → Apart xs → AllPairs (λ a b. a ≢ b) xs
pairs [] apart i j d less within = absurd (omega arith)
pairs (x ∷ xs) apart i zero d less within = absurd (omega arith)
pairs (x ∷ xs) apart zero (suc j) d less within = All-from_recursion (λ y. x ≢ y) xs apart.0 j d (omega arith)
pairs (x ∷ xs) apart (suc i) (suc j) d less within = pairs xs apart.1 i j d (omega arith) (omega arith)

all_pushed : {A : Type 0} (P : A → Type 0) (xs : List A) (y : A) → AllByRecursion P xs → P y → AllByRecursion P (xs ++ y ∷ [])
all_pushed P [] y all last = (last, tt)
all_pushed P (x ∷ xs) y all last = (all.0, all_pushed P xs y all.1 last)

apart_pushed : {A : Type 0} (xs : List A) (y : A) → Apart xs → AllByRecursion (λ x. x ≢ y) xs → Apart (xs ++ y ∷ [])
apart_pushed [] y apart other = (tt, tt)
apart_pushed (x ∷ xs) y apart other = (all_pushed (λ z. x ≢ z) xs y apart.0 other.0, apart_pushed xs y apart.1 other.1)

pub weaker : {A : Type 0} (P Q : A → Type 0) → ((x : A) → P x → Q x) → (xs : List A) → AllByRecursion P xs → AllByRecursion Q xs
weaker P Q so [] all = tt
weaker P Q so (x ∷ xs) all = (so x all.0, weaker P Q so xs all.1)

pub all_front : {A : Type 0} (P : A → Type 0) (xs ys : List A) → AllByRecursion P (xs ++ ys) → AllByRecursion P xs
all_front P [] ys all = tt
all_front P (x ∷ xs) ys all = (all.0, all_front P xs ys all.1)

pub all_behind : {A : Type 0} (P : A → Type 0) (xs ys : List A) → AllByRecursion P (xs ++ ys) → AllByRecursion P ys
all_behind P [] ys all = all
all_behind P (x ∷ xs) ys all = all_behind P xs ys all.1

pub all_both : {A : Type 0} (P : A → Type 0) (xs ys : List A) → AllByRecursion P xs → AllByRecursion P ys → AllByRecursion P (xs ++ ys)
all_both P [] ys all more = more
all_both P (x ∷ xs) ys all more = (all.0, all_both P xs ys all.1 more)

-- ---- what holds of each table of numbered declarations

module _ {A : Type 0} where
  -- the names of a table
  abbrev pub names : Table A → List (List ℕ)
  names table = map (λ one. one.0) table

  names_pushed : (table : Table A) (one : List ℕ × A) → names (table ++ one ∷ []) ≡ names table ++ one.0 ∷ []
  names_pushed [] one = refl
  names_pushed (x ∷ table) one = ap (λ others. x.0 ∷ others) (names_pushed table one)

  -- a name that isn't declared is none of the table's
  other_names_by : (same : Bool) (name first : List ℕ) (a : A) (rest : Option A) → bytes_eq name first ≡ same → is_some (cond same (Some a) rest) ≡ false → (first ≢ name) × (is_some rest ≡ false)
  other_names_by true name first a rest is e = absurd cc
  other_names_by false name first a rest is e =
      (λ same. let so = (bytes_eq-Decides name first).1 (sym same) in let no : true ≡ false = sym so ∙ is in absurd cc, e)

  other_names : (table : Table A) (name : List ℕ) → is_some (declaration_of table name) ≡ false → AllByRecursion (λ other. other ≢ name) (names table)
  other_names [] name e = tt
  other_names (one ∷ table) name e =
      let first = other_names_by (bytes_eq name one.0) name one.0 one.1 (declaration_of table name) refl e in
      (first.0, other_names table name first.1)

  -- what is declared stays so
  stays_by : (same : Bool) (a b : A) (rest whole : Option A) → cond same (Some a) rest ≡ Some b → (rest ≡ Some b → whole ≡ Some b) → cond same (Some a) whole ≡ Some b
  stays_by true a b rest whole e more = e
  stays_by false a b rest whole e more = more e

  stays : (table more : Table A) (name : List ℕ) (a : A) → declaration_of table name ≡ Some a → declaration_of (table ++ more) name ≡ Some a
  stays [] more name a e = absurd cc
  stays (one ∷ table) more name a e = stays_by (bytes_eq name one.0) one.1 a (declaration_of table name) (declaration_of (table ++ more) name) e (stays table more name a)

  -- a new name is declared by what is put behind
  new_by : (same : Bool) (a b : A) (rest whole : Option A) → is_some (cond same (Some a) rest) ≡ false → (is_some rest ≡ false → whole ≡ Some b) → cond same (Some a) whole ≡ Some b
  new_by true a b rest whole e more = absurd cc
  new_by false a b rest whole e more = more e

  new_here : (name : List ℕ) (a : A) → declaration_of ((name, a) ∷ []) name ≡ Some a
  new_here name a = ap (λ same. cond same (Some a) None) ((bytes_eq-Decides name name).1 refl)

  new_declared : (table : Table A) (name : List ℕ) (a : A) → is_some (declaration_of table name) ≡ false → declaration_of (table ++ (name, a) ∷ []) name ≡ Some a
  new_declared [] name a e = new_here name a
  new_declared (one ∷ table) name a e =
      new_by (bytes_eq name one.0) one.1 a (declaration_of table name) (declaration_of (table ++ (name, a) ∷ []) name) e (new_declared table name a)

  -- whatever holds of each entry holds of what is declared
  declared_by : (P : List ℕ → A → Type 0) (same : Bool) (name first : List ℕ) (a b : A) (rest : Option A) → bytes_eq name first ≡ same → P first a → (rest ≡ Some b → P name b) → cond same (Some a) rest ≡ Some b → P name b
  declared_by P true name first a b rest is here there e =
      let same = (bytes_eq-Decides name first).0 is in
      subst (λ n. P n b) (sym same) (subst (P first) (grind arith) here)
  declared_by P false name first a b rest is here there e = there e

  pub declared : (P : List ℕ → A → Type 0) (table : Table A) (name : List ℕ) (a : A) → AllByRecursion (λ one. P one.0 one.1) table → declaration_of table name ≡ Some a → P name a
  declared P [] name a all e = absurd cc
  declared P (one ∷ table) name a all e =
      declared_by P (bytes_eq name one.0) name one.0 one.1 a (declaration_of table name) refl all.0 (declared P table name a all.1) e

module _ {A : Type 0} where
  -- numbers from one on
  abbrev AreNumbered : ℕ → Table (ℕ × A) → Type 0
  AreNumbered n [] = Unit {0}
  AreNumbered n (one ∷ others) = (one.1.0 ≡ n) × AreNumbered (suc n) others

  numbered_pushed : (n : ℕ) (table : Table (ℕ × A)) (name : List ℕ) (m : ℕ) (a : A) → m ≡ n + length table → AreNumbered n table → AreNumbered n (table ++ (name, (m, a)) ∷ [])
  numbered_pushed n [] name m a is are = (omega arith, tt)
  numbered_pushed n (one ∷ table) name m a is are = (are.0, numbered_pushed (suc n) table name m a (omega arith) are.1)

  -- numbered by their places, no name twice, each declared by its own entry
  pub record IsTable (table : Table (ℕ × A)) : Type 0 where
    pub numbered : AreNumbered 0 table
    pub apart : Apart (names table)
    pub own : AllByRecursion (λ one. declaration_of table one.0 ≡ Some one.1) table

  with_next_by : (there : Bool) (table : Table (ℕ × A)) (one : List ℕ × A) → is_some (declaration_of table one.0) ≡ there → IsTable table
      → IsTable (if there then table else table ++ (one.0, (length table, one.1)) ∷ [])
  with_next_by true table one is t = t
  with_next_by false table one is t = record {
    numbered = numbered_pushed 0 table one.0 (length table) one.1 (omega arith) t.numbered;
    apart = subst Apart (sym (names_pushed table (one.0, (length table, one.1)))) (apart_pushed (names table) one.0 t.apart (other_names table one.0 is));
    own = all_pushed (λ e. declaration_of (table ++ (one.0, (length table, one.1)) ∷ []) e.0 ≡ Some e.1) table (one.0, (length table, one.1))
        (weaker (λ e. declaration_of table e.0 ≡ Some e.1) (λ e. declaration_of (table ++ (one.0, (length table, one.1)) ∷ []) e.0 ≡ Some e.1)
        (λ e old. stays table ((one.0, (length table, one.1)) ∷ []) e.0 e.1 old) table t.own)
        (new_declared table one.0 (length table, one.1) is);
  }

  fold_is_table : (table : Table (ℕ × A)) (all : List (List ℕ × A)) → IsTable table → IsTable (fold with_next table all)
  fold_is_table table [] t = t
  fold_is_table table (one ∷ others) t = fold_is_table (with_next table one) others (with_next_by (is_some (declaration_of table one.0)) table one refl t)

  pub is_table : (all : List (List ℕ × A)) → IsTable (table_of all)
  is_table all = fold_is_table [] all (record { numbered = tt; apart = tt; own = tt })

  -- what is declared under a number stands at that place
  at_place_by : (same : Bool) (name first : List ℕ) (n k m : ℕ) (x a : A) (others : Table (ℕ × A)) → bytes_eq name first ≡ same → k ≡ n
      → (declaration_of others name ≡ Some (m, a) → (i : ℕ) × (m ≡ suc n + i) × (slice_get others i ≡ Some (name, (m, a))))
      → cond same (Some (k, x)) (declaration_of others name) ≡ Some (m, a) → (i : ℕ) × (m ≡ n + i) × (slice_get ((first, (k, x)) ∷ others) i ≡ Some (name, (m, a)))
  at_place_by true name first n k m x a others is at there e =
      let same = (bytes_eq-Decides name first).0 is in
      let value : ◌≡◌ {A = ℕ × A} (k, x) (m, a) = grind arith in
      (0, omega (arith, at, ap (λ p. p.0) value), ap (λ v. Some (first, v)) value ∙ ap (λ n. Some (n, (m, a))) (sym same))
  at_place_by false name first n k m x a others is at there e =
      let rest = there e in
      (suc rest.0, omega (arith, rest.1), rest.2)

  at_place : (n : ℕ) (table : Table (ℕ × A)) (name : List ℕ) (m : ℕ) (a : A) → AreNumbered n table → declaration_of table name ≡ Some (m, a) → (i : ℕ) × (m ≡ n + i) × (slice_get table i ≡ Some (name, (m, a)))
  at_place n [] name m a are e = absurd cc
  at_place n (one ∷ others) name m a are e =
      at_place_by (bytes_eq name one.0) name one.0 n one.1.0 m one.1.1 a others refl are.0 (at_place (suc n) others name m a are.1) e

  pub stands : (table : Table (ℕ × A)) (name : List ℕ) (n : ℕ) (a : A) → IsTable table → declaration_of table name ≡ Some (n, a) → slice_get table n ≡ Some (name, (n, a))
  stands table name n a t e =
      let at = at_place 0 table name n a t.numbered e in
      subst (λ i. slice_get table i ≡ Some (name, (n, a))) (omega (arith, at.1)) at.2

  -- an entry has the number of its place
  number_at : (n : ℕ) (table : Table (ℕ × A)) (i : ℕ) (e : List ℕ × (ℕ × A)) → AreNumbered n table → slice_get table i ≡ Some e → e.1.0 ≡ n + i
  number_at n [] i e are at = absurd cc
  number_at n (one ∷ others) zero e are at =
      let same : one ≡ e = grind arith in
      omega (arith, are.0, ap (λ (entry : List ℕ × (ℕ × A)). entry.1.0) same)
  number_at n (one ∷ others) (suc i) e are at = omega (arith, number_at (suc n) others i e are.1 at)

  pub numbered_at : (table : Table (ℕ × A)) (i : ℕ) (e : List ℕ × (ℕ × A)) → IsTable table → slice_get table i ≡ Some e → e.1.0 ≡ i
  numbered_at table i e t at = omega (arith, number_at 0 table i e t.numbered at)

  -- ---- the length of a table

  longer_by : (there : Bool) (table : Table (ℕ × A)) (one : List ℕ × (ℕ × A)) → length (if there then table else table ++ one ∷ []) ≤ suc (length table)
  longer_by true table one = omega arith
  longer_by false table one = omega (arith, length_push table one)

  fold_no_longer : (table : Table (ℕ × A)) (all : List (List ℕ × A)) → length (fold with_next table all) ≤ length table + length all
  fold_no_longer table [] = omega arith
  fold_no_longer table (one ∷ others) =
      omega (arith, fold_no_longer (with_next table one) others, longer_by (is_some (declaration_of table one.0)) table (one.0, (length table, one.1)))

  pub no_longer : (all : List (List ℕ × A)) → length (table_of all) ≤ length all
  no_longer all = omega (arith, fold_no_longer [] all)

  -- ---- what is in a table comes from the declarations, and each of these is declared

  from_by : (P : List ℕ → A → Type 0) (there : Bool) (table : Table (ℕ × A)) (one : List ℕ × A) → AllByRecursion (λ e. P e.0 e.1.1) table → P one.0 one.1
      → AllByRecursion (λ e. P e.0 e.1.1) (if there then table else table ++ (one.0, (length table, one.1)) ∷ [])
  from_by P true table one all here = all
  from_by P false table one all here = all_pushed (λ e. P e.0 e.1.1) table (one.0, (length table, one.1)) all here

  fold_from : (P : List ℕ → A → Type 0) (table : Table (ℕ × A)) (all : List (List ℕ × A)) → AllByRecursion (λ e. P e.0 e.1.1) table → AllByRecursion (λ one. P one.0 one.1) all
      → AllByRecursion (λ e. P e.0 e.1.1) (fold with_next table all)
  fold_from P table [] here there = here
  fold_from P table (one ∷ others) here there = fold_from P (with_next table one) others (from_by P (is_some (declaration_of table one.0)) table one here there.0) there.1

  pub from_declarations : (P : List ℕ → A → Type 0) (all : List (List ℕ × A)) → AllByRecursion (λ one. P one.0 one.1) all → AllByRecursion (λ e. P e.0 e.1.1) (table_of all)
  from_declarations P all there = fold_from P [] all tt there

  -- a name that is declared
  abbrev pub IsThere : Table (ℕ × A) → List ℕ → Type 0
  IsThere table name = (n : ℕ) × (a : A) × (declaration_of table name ≡ Some (n, a))

  still_by : (there : Bool) (table : Table (ℕ × A)) (one : List ℕ × A) (name : List ℕ) → IsThere table name → IsThere (if there then table else table ++ (one.0, (length table, one.1)) ∷ []) name
  still_by true table one name is = is
  still_by false table one name is = (is.0, is.1, stays table ((one.0, (length table, one.1)) ∷ []) name (is.0, is.1) is.2)

  still_there : (table : Table (ℕ × A)) (all : List (List ℕ × A)) (name : List ℕ) → IsThere table name → IsThere (fold with_next table all) name
  still_there table [] name is = is
  still_there table (one ∷ others) name is = still_there (with_next table one) others name (still_by (is_some (declaration_of table one.0)) table one name is)

  pub some_declared : (found : Option (ℕ × A)) → is_some found ≡ true → (n : ℕ) × (a : A) × (found ≡ Some (n, a))
  some_declared None e = absurd cc
  some_declared (Some (n, a)) e = (n, a, refl)

  now_by : (there : Bool) (table : Table (ℕ × A)) (one : List ℕ × A) → is_some (declaration_of table one.0) ≡ there → IsThere (if there then table else table ++ (one.0, (length table, one.1)) ∷ []) one.0
  now_by true table one is = some_declared (declaration_of table one.0) is
  now_by false table one is = (length table, one.1, new_declared table one.0 (length table, one.1) is)

  fold_there : (table : Table (ℕ × A)) (all : List (List ℕ × A)) → AllByRecursion (λ one. IsThere (fold with_next table all) one.0) all
  fold_there table [] = tt
  fold_there table (one ∷ others) =
      (still_there (with_next table one) others one.0 (now_by (is_some (declaration_of table one.0)) table one refl), fold_there (with_next table one) others)

  pub all_there : (all : List (List ℕ × A)) → AllByRecursion (λ one. IsThere (table_of all) one.0) all
  all_there all = fold_there [] all

-- ---- declarations without a repeated name

-- none of these names stands among those before
abbrev pub AreNew : List (List ℕ) → List (List ℕ) → Type 0
AreNew before [] = Unit {0}
AreNew before (name ∷ names) = (list_any (bytes_eq name) before ≡ false) × AreNew (before ++ name ∷ []) names

there_by : {A : Type 0} (same : Bool) (a : A) (rest : Option A) (any : Bool) → is_some rest ≡ any → is_some (cond same (Some a) rest) ≡ (same || any)
there_by true a rest any e = refl
there_by false a rest any e = e

there_is_any : {A : Type 0} (table : Table A) (name : List ℕ) → is_some (declaration_of table name) ≡ list_any (bytes_eq name) (names table)
there_is_any [] name = refl
there_is_any (one ∷ table) name = there_by (bytes_eq name one.0) one.1 (declaration_of table name) (list_any (bytes_eq name) (names table)) (there_is_any table name)

length_suc : {A : Type 0} (xs : List A) (y : A) → length (xs ++ y ∷ []) ≡ suc (length xs)
length_suc xs y = omega (arith, length_push xs y)

-- a new declaration is put behind
put_by : {A : Type 0} (there : Bool) (table : Table (ℕ × A)) (one : List ℕ × A) → there ≡ false
    → (if there then table else table ++ (one.0, (length table, one.1)) ∷ []) ≡ table ++ (one.0, (length table, one.1)) ∷ []
put_by true table one e = absurd cc
put_by false table one e = refl

put : {A : Type 0} (table : Table (ℕ × A)) (one : List ℕ × A) → list_any (bytes_eq one.0) (names table) ≡ false → with_next table one ≡ table ++ (one.0, (length table, one.1)) ∷ []
put table one new = put_by (is_some (declaration_of table one.0)) table one (there_is_any table one.0 ∙ new)

-- declarations that aren't faulty for their names have new names
new_names : (what : What) (before : Table (ℕ × ℕ)) (all : List Declaration) → repeat_faults what before all ≡ [] → AreNew (names before) (names all)
new_names what before [] none = tt
new_names what before (one ∷ others) none =
    let first = not_so (is_some (declaration_of before one.0)) one.1 what (none_front (fault_if (is_some (declaration_of before one.0)) one.1 what) (repeat_faults what (with_next before one) others) none) in
    let rest = none_behind (fault_if (is_some (declaration_of before one.0)) one.1 what) (repeat_faults what (with_next before one) others) none in
    let new = sym (there_is_any before one.0) ∙ first in
    (new, subst (λ known. AreNew known (names others)) (ap names (put before one new) ∙ names_pushed before (one.0, (length before, one.1))) (new_names what (with_next before one) others rest))

pub are_new : (what : What) (all : List Declaration) → repeat_faults what [] all ≡ [] → AreNew [] (names all)
are_new what all none = new_names what [] all none

-- declarations with their numbers, from one on
abbrev pub entries : {A : Type 0} → ℕ → List (List ℕ × A) → Table (ℕ × A)
entries n [] = []
entries n (one ∷ others) = (one.0, (n, one.1)) ∷ entries (suc n) others

fold_is_entries : {A : Type 0} (table : Table (ℕ × A)) (all : List (List ℕ × A)) → AreNew (names table) (names all) → fold with_next table all ≡ table ++ entries (length table) all
fold_is_entries table [] new = sym (append-nil table)
fold_is_entries table (one ∷ others) new =
    let here = put table one new.0 in
    let entry : List ℕ × (ℕ × _) = (one.0, (length table, one.1)) in
    let rest = fold_is_entries (table ++ entry ∷ []) others (subst (λ known. AreNew known (names others)) (sym (names_pushed table entry)) new.1) in
    ap (λ table. fold with_next table others) here ∙ rest ∙ ap (λ n. (table ++ entry ∷ []) ++ entries n others) (length_suc table entry) ∙ append_assoc table (entry ∷ []) (entries (suc (length table)) others)

-- where no name is repeated, the table is the declarations with their numbers
pub table_is : {A : Type 0} (all : List (List ℕ × A)) → AreNew [] (names all) → table_of all ≡ entries 0 all
table_is all new = fold_is_entries [] all new

pub entry_stands : {A : Type 0} (k : ℕ) (all : List (List ℕ × A)) (n m : ℕ) (name : List ℕ) (a : A) → slice_get (entries k all) n ≡ Some (name, (m, a)) → slice_get all n ≡ Some (name, a)
entry_stands k [] n m name a e = absurd cc
entry_stands k (one ∷ others) zero m name a e =
    let same : ◌≡◌ {A = List ℕ × (ℕ × _)} (one.0, (k, one.1)) (name, (m, a)) = grind arith in
    ap (λ p. Some (p.0, p.1.1)) same
entry_stands k (one ∷ others) (suc n) m name a e = entry_stands (suc k) others n m name a e

entry_names : {A : Type 0} (k : ℕ) (all : List (List ℕ × A)) → names (entries k all) ≡ names all
entry_names k [] = refl
entry_names k (one ∷ others) = ap (λ rest. one.0 ∷ rest) (entry_names (suc k) others)

-- names without a repeated one are apart
pub names_apart : {A : Type 0} (all : List (List ℕ × A)) → AreNew [] (names all) → Apart (names all)
names_apart all new = subst Apart (ap names (table_is all new) ∙ entry_names 0 all) (is_table all).apart

-- what is declared there stands in the list at its number
pub declared_stands : {A : Type 0} (all : List (List ℕ × A)) → AreNew [] (names all) → (name : List ℕ) (n : ℕ) (a : A) → declaration_of (table_of all) name ≡ Some (n, a) → slice_get all n ≡ Some (name, a)
declared_stands all new name n a e =
    entry_stands 0 all n n name a (subst (λ table. slice_get table n ≡ Some (name, (n, a))) (table_is all new) (stands (table_of all) name n a (is_table all) e))
