-- What the declarations of objects and members come to, and what of it is spelled.
use Rattle.std.proofs.Common.{◌≡◌, ◌≢◌, ℕ, zero, suc, ◌<◌, ◌≤◌, ◌==◌, Bool, true, false, cond, List, [], ◌∷◌, ◌++◌, map, length, Option, Some, None, refl, sym, subst, ap, ◌∙◌, arith}
use Rattle.std.specs.Prelude.{slice_get, find, drop, IsSome, MatchOption, ⊤}
use Rattle.std.specs.List.{AllByRecursion, Any, flat_map, filter_map, cons_option}
use Rattle.std.proofs.lemmas.List.{length-map}
use Rattle.std.proofs.lemmas.List.Elements.{filter_map-append}
use Rattle.std.proofs.lemmas.Option.{some_pair_parts, same_Some}
use Rattle.ecf_lang.specs.declared.limits.TheConstants.{MAX_FIELDS, MAX_METHODS}
use Rattle.ecf_lang.specs.declared.tree.Tree.{Tree}
use Rattle.ecf_lang.specs.declared.tree.ObjectDecl.{ObjectDecl}
use Rattle.ecf_lang.specs.declared.tree.Member.{Member}
use Rattle.ecf_lang.specs.declared.tree.Member.TheVariants.{Field, Map, Method}
use Rattle.ecf_lang.specs.declared.typed.FieldKind.{FieldKind}
use Rattle.ecf_lang.specs.declared.typed.Signature.{Signature}
use Rattle.ecf_lang.specs.declared.typed.TypedField.{TypedField}
use Rattle.ecf_lang.specs.declared.typed.TypedMethod.{TypedMethod}
use Rattle.ecf_grammar.specs.Lexemes.{NumberedLexemes}
use Rattle.ecf_grammar.specs.Spelling.{IsName}
use Rattle.ecf_grammar.specs.Spells.{SpellsAll, SpellsMember, SpellsObject, SpellsFile}
use Rattle.ecf_faults.specs.declared.What.{What}
use Rattle.ecf_faults.specs.declared.What.TheVariants as what
use Rattle.ecf_faults.specs.Tables.{declaration_of, Surroundings}
use Rattle.ecf_faults.specs.Expressions.{fault, method_number}
use Rattle.ecf_faults.specs.Declarations.{Declaration, repeat_faults, excess_faults, field_kind, field_declaration, method_declaration, method_signature, member_faults, field_form, method_form, object_faults}
use Rattle.ecf_welltyped.proofs.ListLaws.{itself, none_front, none_behind}
use Rattle.ecf_welltyped.proofs.SpellingLaws.{AreSpelled, front, behind, name_spelled}
use Rattle.ecf_welltyped.proofs.TableLaws.{names, Apart, weaker, all_front, all_behind, all_both, AreNew, are_new}

-- ---- lists

same_some : {A : Type 0} (x y : A) → Some x ≡ Some y → x ≡ y
same_some x y e = same_Some x y e

pub few_of : (kind : What) (limit : ℕ) (all : List Declaration) → map (λ one. fault one.1 kind) (drop limit all) ≡ [] → length all ≤ limit
few_of kind zero [] none = omega arith
few_of kind zero (one ∷ all) none = absurd cc
few_of kind (suc limit) [] none = omega arith
few_of kind (suc limit) (one ∷ all) none = omega (arith, few_of kind limit all none)

pub each_none : {A B : Type 0} (f : A → List B) (xs : List A) → flat_map f xs ≡ [] → AllByRecursion (λ x. f x ≡ []) xs
each_none f [] none = tt
each_none f (x ∷ xs) none = (none_front (f x) (flat_map f xs) none, each_none f xs (none_behind (f x) (flat_map f xs) none))

pub both : {A : Type 0} (P Q : A → Type 0) (xs : List A) → AllByRecursion P xs → AllByRecursion Q xs → AllByRecursion (λ x. P x × Q x) xs
both P Q [] ps qs = tt
both P Q (x ∷ xs) ps qs = ((ps.0, qs.0), both P Q xs ps.1 qs.1)

-- what holds of each that a list gives
given_by : {B : Type 0} (P : B → Type 0) (one : Option B) (rest : List B) → MatchOption one ⊤ P → AllByRecursion P rest → AllByRecursion P (cons_option one rest)
given_by P None rest here there = there
given_by P (Some b) rest here there = (here, there)

pub given : {A B : Type 0} (h : A → Option B) (P : B → Type 0) (xs : List A) → AllByRecursion (λ x. MatchOption (h x) ⊤ P) xs → AllByRecursion P (filter_map h xs)
given h P [] all = tt
given h P (x ∷ xs) all = given_by P (h x) (filter_map h xs) all.0 (given h P xs all.1)

pub mapped : {A B : Type 0} (f : A → B) (P : B → Type 0) (xs : List A) → AllByRecursion (λ x. P (f x)) xs → AllByRecursion P (map f xs)
mapped f P [] all = tt
mapped f P (x ∷ xs) all = (all.0, mapped f P xs all.1)

pub unmapped : {A B : Type 0} (f : A → B) (P : B → Type 0) (xs : List A) → AllByRecursion P (map f xs) → AllByRecursion (λ x. P (f x)) xs
unmapped f P [] all = tt
unmapped f P (x ∷ xs) all = (all.0, unmapped f P xs all.1)

ungiven_by : {B : Type 0} (P : B → Type 0) (one : Option B) (rest : List B) → AllByRecursion P (cons_option one rest) → MatchOption one ⊤ P × AllByRecursion P rest
ungiven_by P None rest all = (tt, all)
ungiven_by P (Some b) rest all = (all.0, all.1)

pub ungiven : {A B : Type 0} (h : A → Option B) (P : B → Type 0) (xs : List A) → AllByRecursion P (filter_map h xs) → AllByRecursion (λ x. MatchOption (h x) ⊤ P) xs
ungiven h P [] all = tt
ungiven h P (x ∷ xs) all = let here = ungiven_by P (h x) (filter_map h xs) all in (here.0, ungiven h P xs here.1)

others_apart : {A B : Type 0} (f : A → B) (P : A → Type 0) → ((a b : A) → P a → P b → f a ≡ f b → a ≡ b) → (x : A) → P x → (ys : List A) → AllByRecursion P ys → AllByRecursion (λ y. x ≢ y) ys → AllByRecursion (λ y. f x ≢ y) (map f ys)
others_apart f P same x p [] ps other = tt
others_apart f P same x p (y ∷ ys) ps other = (λ e. other.0 (same x y p ps.0 e), others_apart f P same x p ys ps.1 other.1)

-- different arguments of a function that tells them apart
pub map_apart : {A B : Type 0} (f : A → B) (P : A → Type 0) → ((a b : A) → P a → P b → f a ≡ f b → a ≡ b) → (xs : List A) → AllByRecursion P xs → Apart xs → Apart (map f xs)
map_apart f P same [] all apart = tt
map_apart f P same (x ∷ xs) all apart = (others_apart f P same x all.0 xs all.1 apart.0, map_apart f P same xs all.1 apart.1)

pub at_get : {A : Type 0} (P : A → Type 0) (xs : List A) (n : ℕ) (x : A) → AllByRecursion P xs → slice_get xs n ≡ Some x → P x
at_get P [] n x all e = absurd cc
at_get P (y ∷ xs) zero x all e = subst P (same_some y x e) all.0
at_get P (y ∷ xs) (suc n) x all e = at_get P xs n x all.1 e

pub some_at : {A : Type 0} (xs : List A) (n : ℕ) → n < length xs → (x : A) × (slice_get xs n ≡ Some x)
some_at [] n less = absurd (omega arith)
some_at (x ∷ xs) zero less = (x, refl)
some_at (x ∷ xs) (suc n) less = some_at xs n (omega arith)

pub any_here : {A : Type 0} (P : A → Type 0) (x : A) (xs : List A) → P x → Any P (x ∷ xs)
any_here P x xs p = (0, x, omega arith, refl, p)

pub any_there : {A : Type 0} (P : A → Type 0) (x : A) (xs : List A) → Any P xs → Any P (x ∷ xs)
any_there P x xs any = (suc any.0, any.1, omega (arith, any.2), any.3, any.4)

-- ---- members by their forms

-- names of fields and methods, however they are listed
pub kind_names : (members : List Member) → names (filter_map field_kind members) ≡ names (filter_map field_declaration members)
kind_names [] = refl
kind_names (Field at name ty first ∷ members) = ap (λ rest. name ∷ rest) (kind_names members)
kind_names (Map at name key value first ∷ members) = ap (λ rest. name ∷ rest) (kind_names members)
kind_names (Method at name params answer body ∷ members) = kind_names members

pub signature_names : (members : List Member) → names (filter_map method_signature members) ≡ names (filter_map method_declaration members)
signature_names [] = refl
signature_names (Field at name ty first ∷ members) = signature_names members
signature_names (Map at name key value first ∷ members) = signature_names members
signature_names (Method at name params answer body ∷ members) = ap (λ rest. name ∷ rest) (signature_names members)

pub as_many : {A B : Type 0} (xs : List (List ℕ × A)) (ys : List (List ℕ × B)) → names xs ≡ names ys → length xs ≡ length ys
as_many xs ys same = sym (length-map xs (λ one. one.0)) ∙ ap length same ∙ length-map ys (λ one. one.0)

module _ (around : Surroundings) where
  pub form_names : (members : List Member) → map (λ (f : TypedField). f.name) (filter_map (field_form around) members) ≡ names (filter_map field_declaration members)
  form_names [] = refl
  form_names (Field at name ty None ∷ members) = ap (λ rest. name ∷ rest) (form_names members)
  form_names (Field at name ty (Some first) ∷ members) = ap (λ rest. name ∷ rest) (form_names members)
  form_names (Map at name key value first ∷ members) = ap (λ rest. name ∷ rest) (form_names members)
  form_names (Method at name params answer body ∷ members) = form_names members

  pub form_numbers : (members : List Member) → map (λ (m : TypedMethod). m.name) (filter_map (method_form around) members) ≡ map (λ name. method_number (declaration_of around.signatures name)) (names (filter_map method_declaration members))
  form_numbers [] = refl
  form_numbers (Field at name ty first ∷ members) = form_numbers members
  form_numbers (Map at name key value first ∷ members) = form_numbers members
  form_numbers (Method at name params answer body ∷ members) = ap (λ rest. method_number (declaration_of around.signatures name) ∷ rest) (form_numbers members)

  -- a field's form stands at the place of its declaration
  pub field_at : (members : List Member) (n : ℕ) (name : List ℕ) (k : FieldKind) → slice_get (filter_map field_kind members) n ≡ Some (name, k)
      → (f : TypedField) × (slice_get (filter_map (field_form around) members) n ≡ Some f) × (f.kind ≡ k)
  field_at [] n name k e = absurd cc
  field_at (Field at own ty None ∷ members) zero name k e = (_, refl, (some_pair_parts own name _ k e).1)
  field_at (Field at own ty None ∷ members) (suc n) name k e = field_at members n name k e
  field_at (Field at own ty (Some first) ∷ members) zero name k e = (_, refl, (some_pair_parts own name _ k e).1)
  field_at (Field at own ty (Some first) ∷ members) (suc n) name k e = field_at members n name k e
  field_at (Map at own key value first ∷ members) zero name k e = (_, refl, (some_pair_parts own name _ k e).1)
  field_at (Map at own key value first ∷ members) (suc n) name k e = field_at members n name k e
  field_at (Method at own params answer body ∷ members) n name k e = field_at members n name k e

  -- what holds of each method's number
  pub signature_numbers : (P : ℕ → Type 0) (members : List Member) → AllByRecursion (λ (m : TypedMethod). P m.name) (filter_map (method_form around) members)
      → AllByRecursion (λ one. P (method_number (declaration_of around.signatures one.0))) (filter_map method_signature members)
  signature_numbers P [] all = tt
  signature_numbers P (Field at name ty first ∷ members) all = signature_numbers P members all
  signature_numbers P (Map at name key value first ∷ members) all = signature_numbers P members all
  signature_numbers P (Method at name params answer body ∷ members) all = (all.0, signature_numbers P members all.1)

-- ---- methods are found by their numbers

found_first : (m : TypedMethod) (rest : Option TypedMethod) → IsSome (cond (m.name == m.name) (Some m) rest)
found_first m rest = subst (λ b. IsSome (cond b (Some m) rest)) (sym (itself m.name)) refl

found_later : (b : Bool) (m : TypedMethod) (rest : Option TypedMethod) → IsSome rest → IsSome (cond b (Some m) rest)
found_later true m rest is = refl
found_later false m rest is = is

pub methods_found : (ms : List TypedMethod) → AllByRecursion (λ (m : TypedMethod). IsSome (find (λ (x : TypedMethod). x.name == m.name) ms)) ms
methods_found [] = tt
methods_found (m ∷ ms) = (
  found_first m (find (λ (x : TypedMethod). x.name == m.name) ms),
  weaker (λ (o : TypedMethod). IsSome (find (λ (x : TypedMethod). x.name == o.name) ms)) (λ (o : TypedMethod). IsSome (find (λ (x : TypedMethod). x.name == o.name) (m ∷ ms)))
      (λ o is. found_later (m.name == o.name) m (find (λ (x : TypedMethod). x.name == o.name) ms) is) ms (methods_found ms),
)

-- ---- an object without fault

pub record IsFaultless (around : Surroundings) (members : List Member) : Type 0 where
  pub new_fields : AreNew [] (names (filter_map field_declaration members))
  pub new_methods : AreNew [] (names (filter_map method_declaration members))
  pub few_fields : length (filter_map field_declaration members) ≤ MAX_FIELDS
  pub few_methods : length (filter_map method_declaration members) ≤ MAX_METHODS
  pub each : AllByRecursion (λ m. member_faults around m ≡ []) members

pub is_faultless : (around : Surroundings) (members : List Member) → object_faults around members ≡ [] → IsFaultless around members
is_faultless around members none =
    let a = repeat_faults what.TwoFields [] (filter_map field_declaration members) in
    let b = repeat_faults what.TwoMethods [] (filter_map method_declaration members) in
    let c = excess_faults what.TooManyMembers MAX_FIELDS (filter_map field_declaration members) in
    let d = excess_faults what.TooManyMembers MAX_METHODS (filter_map method_declaration members) in
    let e = flat_map (member_faults around) members in
    let abcd = none_front (a ++ b ++ c ++ d) e none in
    let abc = none_front (a ++ b ++ c) d abcd in
    let ab = none_front (a ++ b) c abc in
    record {
      new_fields = are_new what.TwoFields (filter_map field_declaration members) (none_front a b ab);
      new_methods = are_new what.TwoMethods (filter_map method_declaration members) (none_behind a b ab);
      few_fields = few_of what.TooManyMembers MAX_FIELDS (filter_map field_declaration members) (none_behind (a ++ b) c abc);
      few_methods = few_of what.TooManyMembers MAX_METHODS (filter_map method_declaration members) (none_behind (a ++ b ++ c) d abcd);
      each = each_none (member_faults around) members (none_behind (a ++ b ++ c ++ d) e none);
    }

-- ---- what is spelled

abbrev pub IsSpelledMember : Member → Type 0
IsSpelledMember m = (a : NumberedLexemes) × SpellsMember a m × AreSpelled a

members_spelled : {a : NumberedLexemes} {ms : List Member} → SpellsAll SpellsMember a ms → AreSpelled a → AllByRecursion IsSpelledMember ms
members_spelled SpellsAll.none s = tt
members_spelled (SpellsAll.some {a = a} {b = b} p q) s = ((a, p, front a b s), members_spelled q (behind a b s))

pub record IsSpelledObject (object : ObjectDecl) : Type 0 where
  pub name : IsName object.name
  pub members : AllByRecursion IsSpelledMember object.members

object_spelled : {a : NumberedLexemes} {o : ObjectDecl} → SpellsObject a o → AreSpelled a → IsSpelledObject o
object_spelled (SpellsObject.object {w = w} {n = n} {o = o} {m = m} {c = c} v1 v2 v3 p v4) s =
    let at_name = behind w (n ++ (o ++ (m ++ c))) s in
    record { name = name_spelled v2 (front n (o ++ (m ++ c)) at_name); members = members_spelled p (front m c (behind o (m ++ c) (behind n (o ++ (m ++ c)) at_name))) }

objects_spelled : {a : NumberedLexemes} {os : List ObjectDecl} → SpellsAll SpellsObject a os → AreSpelled a → AllByRecursion IsSpelledObject os
objects_spelled SpellsAll.none s = tt
objects_spelled (SpellsAll.some {a = a} {b = b} p q) s = (object_spelled p (front a b s), objects_spelled q (behind a b s))

pub file_spelled : {a : NumberedLexemes} {tree : Tree} → SpellsFile a tree → AreSpelled a → AllByRecursion IsSpelledObject tree.objects
file_spelled (SpellsFile.file {a = a} {b = b} p q) s = (object_spelled p (front a b s), objects_spelled q (behind a b s))

pub method_name_spelled : {a : NumberedLexemes} {m : Member} → SpellsMember a m → AreSpelled a → MatchOption (method_signature m) ⊤ (λ one. IsName one.0)
method_name_spelled (SpellsMember.field v1 v2 p v3) s = tt
method_name_spelled (SpellsMember.map v1 v2 v3 v4 v5 v6 p v7) s = tt
method_name_spelled (SpellsMember.method {w = w} {n = n} {o = o} {p = p} {c = c} {s = q} {t = t} {b = b} v1 v2 v3 ps v4 v5 v6 spelled) s =
    name_spelled v2 (front n (o ++ (p ++ (c ++ (q ++ (t ++ b))))) (behind w (n ++ (o ++ (p ++ (c ++ (q ++ (t ++ b)))))) s))

-- what holds of each method of each object holds of each method of the file, and the other way round
pub signatures_of_all : (P : List ℕ × Signature → Type 0) (objects : List ObjectDecl) → AllByRecursion (λ o. AllByRecursion P (filter_map method_signature o.members)) objects
    → AllByRecursion P (filter_map method_signature (flat_map (λ o. o.members) objects))
signatures_of_all P [] all = tt
signatures_of_all P (o ∷ objects) all =
    subst (AllByRecursion P) (sym (filter_map-append method_signature o.members (flat_map (λ o. o.members) objects)))
    (all_both P (filter_map method_signature o.members) (filter_map method_signature (flat_map (λ o. o.members) objects)) all.0 (signatures_of_all P objects all.1))

pub signatures_of_each : (P : List ℕ × Signature → Type 0) (objects : List ObjectDecl) → AllByRecursion P (filter_map method_signature (flat_map (λ o. o.members) objects))
    → AllByRecursion (λ o. AllByRecursion P (filter_map method_signature o.members)) objects
signatures_of_each P [] all = tt
signatures_of_each P (o ∷ objects) all =
    let parts = subst (AllByRecursion P) (filter_map-append method_signature o.members (flat_map (λ o. o.members) objects)) all in (
      all_front P (filter_map method_signature o.members) (filter_map method_signature (flat_map (λ o. o.members) objects)) parts,
      signatures_of_each P objects (all_behind P (filter_map method_signature o.members) (filter_map method_signature (flat_map (λ o. o.members) objects)) parts),
    )
