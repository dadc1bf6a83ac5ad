-- Initial values, parameters and members that are spelled are as they should be where they have no fault.
use Rattle.std.proofs.Common.{◌≡◌, ◌≢◌, ℕ, zero, suc, ◌+◌, ◌^◌, ◌<◌, ◌≤◌, ◌==◌, Bool, true, false, not, cond, ◌||◌, if◌then◌else◌, List, [], ◌∷◌, ◌++◌, map, length, Option, Some, None, is_some, refl, sym, subst, ap, ◌∙◌, arith, ◌⊎◌, inl, inr, All}
use Rattle.std.specs.Prelude.{nat_lt, slice_get, find, MatchOption, ⊤}
use Rattle.std.specs.List.{AllByRecursion, flat_map, list_any, enumerate_from}
use Rattle.std.proofs.lemmas.Bool.Decides.{nat_tests}
use Rattle.std.proofs.lemmas.List.{length_push, append-nil}
use Rattle.std.proofs.lemmas.List.Elements.{All-from_recursion}
use Rattle.std.proofs.lemmas.Option.{slice_get_within}
use Rattle.ecf_lang.specs.declared.limits.TheConstants.{MAX_PARAMETERS}
use Rattle.ecf_lang.specs.declared.tree.Ty.{Ty}
use Rattle.ecf_lang.specs.declared.tree.Ty.TheVariants.{Num, Flag, Addr}
use Rattle.ecf_lang.specs.declared.tree.Const.{Const}
use Rattle.ecf_lang.specs.declared.tree.Param.{Param}
use Rattle.ecf_lang.specs.declared.tree.Block.{Block}
use Rattle.ecf_lang.specs.declared.tree.Member.{Member}
use Rattle.ecf_lang.specs.declared.tree.Member.TheVariants.{Field, Map, Method}
use Rattle.ecf_lang.specs.declared.typed.FieldKind.TheVariants as kind
use Rattle.ecf_lang.specs.declared.typed.Signature.{Signature}
use Rattle.ecf_lang.specs.declared.typed.Typed.{Typed}
use Rattle.ecf_lang.specs.declared.typed.TypedObject.{TypedObject}
use Rattle.ecf_lang.specs.Fits.{IsValue}
use Rattle.ecf_lang.specs.Meaning.{flag_of}
use Rattle.ecf_grammar.specs.Lexemes.{NumberedLexemes}
use Rattle.ecf_grammar.specs.Spelling.{IsName}
use Rattle.ecf_grammar.specs.Spells.{SpellsConst, SpellsEntry, SpellsMore, SpellsList, SpellsFirst, SpellsEntries, SpellsMember, SpellsBlock}
use Rattle.ecf_wellformed.specs.Typing.{Scope, Sees, IsBlock}
use Rattle.ecf_wellformed.specs.WellFormed.{parameters, AreFirst, IsField, IsMethod}
use Rattle.ecf_faults.specs.declared.What.TheVariants as what
use Rattle.ecf_faults.specs.Tables.{Table, declaration_of, Surroundings, Locals}
use Rattle.ecf_faults.specs.Expressions.{Report, fault_if, differ, type_faults, faults_for, method_number}
use Rattle.ecf_faults.specs.Statements.{local_faults, next_number, with_local}
use Rattle.ecf_faults.specs.Declarations.{name_report, const_report, const_at, is_type, key_faults, field_form, method_form, method_signature, signature_of, lists_differ, signature_faults, no_locals, parameter_locals, parameter_faults, body_passage, pair_faults, member_faults}
use Rattle.ecf_welltyped.proofs.ListLaws.{is_below, itself, none_front, none_behind, not_so, same_type, as_required, number_kept}
use Rattle.ecf_welltyped.proofs.SpellingLaws.{AreSpelled, front, behind, name_spelled, number_spelled}
use Rattle.ecf_welltyped.proofs.TableLaws.{one_more, Apart, pairs, weaker}
use Rattle.ecf_welltyped.proofs.ExpressionLaws.{HasMethodName, Agrees}
use Rattle.ecf_welltyped.proofs.StatementLaws.{AreLocals}
use Rattle.ecf_welltyped.proofs.SpelledStatementLaws.{block_fits}

-- ---- initial values

flag_is_small : (value : Bool) → flag_of value < 2
flag_is_small true = omega arith
flag_is_small false = omega arith

module _ (typed : Typed) (objects : Table (ℕ × ℕ)) (known : (name : List ℕ) (n token : ℕ) → declaration_of objects name ≡ Some (n, token) → n < length typed.objects) where
  -- an initial value without fault is a value of its type
  abbrev IsKept : Report ℕ → Type 0
  IsKept r = r.faults ≡ [] → (ty : Ty) × (r.ty ≡ Some ty) × IsValue typed ty r.form

  name_is_kept : (at : ℕ) (object : Option (ℕ × ℕ)) → ((n token : ℕ) → object ≡ Some (n, token) → n < length typed.objects) → IsKept (name_report at object)
  name_is_kept at None within none = absurd cc
  name_is_kept at (Some (n, token)) within none = (Addr, refl, within n token refl)

  const_is_kept : {a : NumberedLexemes} {c : Const} → SpellsConst a c → AreSpelled a → IsKept (const_report objects c)
  const_is_kept (SpellsConst.number v) s none = (Num, refl, number_spelled v s)
  const_is_kept (SpellsConst.yes v) s none = (Flag, refl, flag_is_small true)
  const_is_kept (SpellsConst.no v) s none = (Flag, refl, flag_is_small false)
  const_is_kept (SpellsConst.name {at = at} {bytes = bytes} v) s none = name_is_kept at (declaration_of objects bytes) (known bytes) none

  of_type : (want : Ty) (r : Report ℕ) → IsKept r → faults_for (Some want) r ≡ [] → (r.ty ≡ Some want) × IsValue typed want r.form
  of_type want r is none =
      let t = is (none_front r.faults (type_faults (Some want) r.ty r.place) none) in
      let same = as_required want t.0 r.place (subst (λ o. type_faults (Some want) o r.place ≡ []) t.1 (none_behind r.faults (type_faults (Some want) r.ty r.place) none)) in
      (t.1 ∙ ap Some (sym same), subst (λ ty. IsValue typed ty r.form) (sym same) t.2)

  -- ---- initial keys

  not_any_by : (same any : Bool) (key value : ℕ) → (key == value) ≡ same → (same || any) ≡ false → (key ≢ value) × (any ≡ false)
  not_any_by true any key value is none = absurd cc
  not_any_by false any key value is none = (grind (arith, nat_tests), none)

  not_any : (key : ℕ) (values : List ℕ) → list_any (λ value. key == value) values ≡ false → AllByRecursion (λ value. key ≢ value) values
  not_any key [] none = tt
  not_any key (value ∷ values) none =
      let first = not_any_by (key == value) (list_any (λ value. key == value) values) key value refl none in
      (first.0, not_any key values first.1)

  is_type_itself : (ty : Ty) → is_type ty (Some ty) ≡ true
  is_type_itself Num = refl
  is_type_itself Flag = refl
  is_type_itself Addr = refl

  -- a key of the right type that isn't faulty differs from the earlier ones
  one_key : (ty : Ty) (earlier : List ℕ) (key : Report ℕ) (keys : List (Report ℕ)) → key.ty ≡ Some ty → key_faults ty earlier (key ∷ keys) ≡ []
      → AllByRecursion (λ value. key.form ≢ value) earlier × (key_faults ty (key.form ∷ earlier) keys ≡ [])
  one_key ty earlier key keys has none =
      let test = list_any (λ value. key.form == value) earlier in
      let faults = fault_if test key.place what.TwoKeys in
      let both : faults ++ key_faults ty (key.form ∷ earlier) keys ≡ [] =
      subst (λ right. (if right then faults ++ key_faults ty (key.form ∷ earlier) keys else key_faults ty earlier keys) ≡ []) (ap (is_type ty) has ∙ is_type_itself ty) none in
      (not_any key.form earlier (not_so test key.place _ (none_front faults (key_faults ty (key.form ∷ earlier) keys) both)), none_behind faults (key_faults ty (key.form ∷ earlier) keys) both)

  abbrev forms : List (Report ℕ) → List ℕ
  forms keys = map (λ key. key.form) keys

  keys_apart : (ty : Ty) (earlier : List ℕ) (keys : List (Report ℕ)) → AllByRecursion (λ key. key.ty ≡ Some ty) keys → key_faults ty earlier keys ≡ []
      → AllByRecursion (λ key. AllByRecursion (λ value. key ≢ value) earlier) (forms keys) × Apart (forms keys)
  keys_apart ty earlier [] are none = (tt, tt)
  keys_apart ty earlier (key ∷ keys) are none =
      let first = one_key ty earlier key keys are.0 none in
      let rest = keys_apart ty (key.form ∷ earlier) keys are.1 first.1 in (
        (first.0, weaker (λ other. AllByRecursion (λ value. other ≢ value) (key.form ∷ earlier)) (λ other. AllByRecursion (λ value. other ≢ value) earlier) (λ other all. all.1) (forms keys) rest.0),
        (weaker (λ other. AllByRecursion (λ value. other ≢ value) (key.form ∷ earlier)) (λ other. key.form ≢ other) (λ other all same. all.0 (sym same)) (forms keys) rest.0, rest.1),
      )

  -- ---- pairs of key and value

  abbrev SpelledPair : Const × Const → Type 0
  SpelledPair pair = IsKept (const_report objects pair.0) × IsKept (const_report objects pair.1)

  entry_is : {a : NumberedLexemes} {pair : Const × Const} → SpellsEntry a pair → AreSpelled a → SpelledPair pair
  entry_is (SpellsEntry.entry {a = a} {s = c} {b = b} p v q) s = (const_is_kept p (front a (c ++ b) s), const_is_kept q (behind c b (behind a (c ++ b) s)))

  more_are : {a : NumberedLexemes} {all : List (Const × Const)} → SpellsMore SpellsEntry a all → AreSpelled a → AllByRecursion SpelledPair all
  more_are SpellsMore.none s = tt
  more_are (SpellsMore.more {s = c} {a = a} {b = b} v p q) s = (entry_is p (front a b (behind c (a ++ b) s)), more_are q (behind a b (behind c (a ++ b) s)))

  list_are : {a : NumberedLexemes} {all : List (Const × Const)} → SpellsList SpellsEntry a all → AreSpelled a → AllByRecursion SpelledPair all
  list_are SpellsList.empty s = tt
  list_are (SpellsList.list {a = a} {b = b} p q) s = (entry_is p (front a b s), more_are q (behind a b s))

  entries_are : {a : NumberedLexemes} {all : List (Const × Const)} → SpellsEntries a all → AreSpelled a → AllByRecursion SpelledPair all
  entries_are SpellsEntries.no_entries s = tt
  entries_are (SpellsEntries.entries {s = q} {o = o} {a = a} {c = c} v w p u) s = list_are p (front a c (behind o (a ++ c) (behind q (o ++ (a ++ c)) s)))

-- ---- parameters as locals

param_seen_by : (scope : Scope) (k n : ℕ) (ty other : Ty) (same : Bool) → (k == n) ≡ same → k < n → find (λ v. v.0 == n) scope ≡ Some (n, other) → cond same (Some (k, ty)) (find (λ v. v.0 == n) scope) ≡ Some (n, other)
param_seen_by scope k n ty other true is less rest = absurd (grind (arith, nat_tests))
param_seen_by scope k n ty other false is less rest = rest

param_seen : (k : ℕ) (tys : List Ty) (i n : ℕ) (ty : Ty) → n ≡ k + i → slice_get tys i ≡ Some ty → Sees (enumerate_from k tys) n ty
param_seen k [] i n ty is e = absurd cc
param_seen k (t ∷ tys) zero n ty is e =
    let here : k ≡ n = omega (arith, is) in
    let same : t ≡ ty = grind arith in
    subst (λ m. cond (k == m) (Some (k, t)) (find (λ v. v.0 == m) (enumerate_from (k + 1) tys)) ≡ Some (m, ty)) here
    (ap (λ b. cond b (Some (k, t)) (find (λ v. v.0 == k) (enumerate_from (k + 1) tys))) (itself k) ∙ ap (λ t. Some (k, t)) same)
param_seen k (t ∷ tys) (suc i) n ty is e = param_seen_by (enumerate_from (k + 1) tys) k n t ty (k == n) refl (omega (arith, is)) (param_seen (k + 1) tys i n ty (omega (arith, is)) e)

get_front : {A : Type 0} (xs ys : List A) (n : ℕ) (x : A) → slice_get xs n ≡ Some x → slice_get (xs ++ ys) n ≡ Some x
get_front [] ys n x e = absurd cc
get_front (y ∷ xs) ys zero x e = e
get_front (y ∷ xs) ys (suc n) x e = get_front xs ys n x e

get_last : {A : Type 0} (xs : List A) (x : A) → slice_get (xs ++ x ∷ []) (length xs) ≡ Some x
get_last [] x = refl
get_last (y ∷ xs) x = get_last xs x

-- the locals so far are these types in their order, and there are few
record AreParameters (tys : List Ty) (locals : Locals) : Type 0 where
  next : locals.next ≡ length tys
  few : length tys ≤ MAX_PARAMETERS
  typed : (name : List ℕ) (n : ℕ) (ty : Ty) → declaration_of locals.visible name ≡ Some (n, ty) → slice_get tys n ≡ Some ty

one_parameter : (tys : List Ty) (ty : Ty) (locals : Locals) (n : ℕ) (other : Ty) → locals.next ≡ length tys → (slice_get tys n ≡ Some other) ⊎ (◌≡◌ {A = ℕ × Ty} (locals.next, ty) (n, other)) → slice_get (tys ++ ty ∷ []) n ≡ Some other
one_parameter tys ty locals n other next (inl old) = get_front tys (ty ∷ []) n other old
one_parameter tys ty locals n other next (inr new) =
    subst (λ m. slice_get (tys ++ ty ∷ []) m ≡ Some other) (sym next ∙ ap (λ p. p.0) new) (get_last tys ty ∙ ap (λ p. Some p.1) new)

old_or_new : {P Q R : Type 0} → (P → Q) → P ⊎ R → Q ⊎ R
old_or_new f (inl p) = inl (f p)
old_or_new f (inr r) = inr r

next_is : (n : ℕ) → n < MAX_PARAMETERS → next_number n ≡ suc n
next_is n few = grind (arith, nat_tests)

append_one : {A : Type 0} (xs : List A) (y : A) (ys : List A) → (xs ++ y ∷ []) ++ ys ≡ xs ++ y ∷ ys
append_one [] y ys = refl
append_one (x ∷ xs) y ys = ap (λ rest. x ∷ rest) (append_one xs y ys)

parameters_are : (tys : List Ty) (locals : Locals) (params : List Param) → AreParameters tys locals → parameter_faults locals params ≡ [] → AreParameters (tys ++ map (λ param. param.ty) params) (parameter_locals locals params)
parameters_are tys locals [] are none = subst (λ all. AreParameters all locals) (sym (append-nil tys)) are
parameters_are tys locals (param ∷ params) are none =
    let here = none_front (local_faults MAX_PARAMETERS param.at param.name locals) (parameter_faults (with_local param.name param.ty locals) params) none in
    let there = is_some (declaration_of locals.visible param.name) in
    let less = is_below locals.next MAX_PARAMETERS (not_so (not (nat_lt locals.next MAX_PARAMETERS)) param.at _
    (none_behind (fault_if there param.at what.TwoLocals) (fault_if (not (nat_lt locals.next MAX_PARAMETERS)) param.at what.TooManyLocals) here)) in
    let more : AreParameters (tys ++ param.ty ∷ []) (with_local param.name param.ty locals) = record {
      next = omega (arith, next_is locals.next less, are.next, length_push tys param.ty);
      few = omega (arith, less, are.next, length_push tys param.ty);
      typed = λ name n ty e. one_parameter tys param.ty locals n ty are.next (old_or_new (are.typed name n ty) (one_more locals.visible param.name (locals.next, param.ty) name (n, ty) e));
    } in
    subst (λ all. AreParameters all (parameter_locals (with_local param.name param.ty locals) params)) (append_one tys param.ty (map (λ param. param.ty) params))
    (parameters_are (tys ++ param.ty ∷ []) (with_local param.name param.ty locals) params more
    (none_behind (local_faults MAX_PARAMETERS param.at param.name locals) (parameter_faults (with_local param.name param.ty locals) params) none))

no_parameters : AreParameters [] no_locals
no_parameters = record { next = refl; few = omega arith; typed = λ name n ty e. absurd cc }

are_locals : (tys : List Ty) (locals : Locals) → AreParameters tys locals → AreLocals (parameters tys) locals
are_locals tys locals are = record {
  seen = λ name n ty e. let at = are.typed name n ty e in (subst (λ next. n < next) (sym are.next) (slice_get_within tys n ty at), param_seen 0 tys n n ty (omega arith) at);
  few = omega (arith, are.next, are.few);
}

-- ---- signatures

same_types_by : (differs rest : Bool) → (differs || rest) ≡ false → (differs ≡ false) × (rest ≡ false)
same_types_by true rest e = absurd cc
same_types_by false rest e = (refl, e)

same_types : (as' bs : List Ty) → lists_differ as' bs ≡ false → as' ≡ bs
same_types [] [] e = refl
same_types [] (b ∷ bs) e = absurd cc
same_types (a ∷ as') [] e = absurd cc
same_types (a ∷ as') (b ∷ bs) e =
    let both = same_types_by (differ a b) (lists_differ as' bs) e in
    let first = same_type a b both.0 in
    let rest = same_types as' bs both.1 in
    ap (λ a. a ∷ as') first ∙ ap (λ as'. b ∷ as') rest

-- a method whose signature isn't faulty has that of the first of its name
same_signature : (at : ℕ) (signature first : Signature) (n : ℕ) → signature_faults at signature (Some (n, first)) ≡ [] → first ≡ signature
same_signature at signature first n none =
    let both = same_types_by (differ signature.answer first.answer) (lists_differ signature.params first.params) (not_so (differ signature.answer first.answer || lists_differ signature.params first.params) at what.TwoSignatures none) in
    let answer = same_type signature.answer first.answer both.0 in
    let params = same_types signature.params first.params both.1 in
    λ i. record { params = sym params i; answer = sym answer i }

-- ---- members

module _ (typed : Typed) (own : TypedObject) (around : Surroundings) (agrees : Agrees typed own around) where
  known : (name : List ℕ) (n token : ℕ) → declaration_of around.objects name ≡ Some (n, token) → n < length typed.objects
  known name n token e = (agrees.objects name n token e).1

  pairs_are : (key value : Ty) (all : List (Const × Const)) → AllByRecursion (SpelledPair typed around.objects known) all → flat_map (pair_faults around key value) all ≡ []
      → AllByRecursion (λ key_report. key_report.ty ≡ Some key) (map (λ pair. const_at around pair.0) all)
      × AllByRecursion (λ (pair : ℕ × ℕ). IsValue typed key pair.0 × IsValue typed value pair.1) (map (λ pair. ((const_at around pair.0).form, (const_at around pair.1).form)) all)
  pairs_are key value [] are none = (tt, tt)
  pairs_are key value (pair ∷ all) are none =
      let here = none_front (pair_faults around key value pair) (flat_map (pair_faults around key value) all) none in
      let rest = pairs_are key value all are.1 (none_behind (pair_faults around key value pair) (flat_map (pair_faults around key value) all) none) in
      let k = of_type typed around.objects known key (const_at around pair.0) are.0.0 (none_front (faults_for (Some key) (const_at around pair.0)) (faults_for (Some value) (const_at around pair.1)) here) in
      let v = of_type typed around.objects known value (const_at around pair.1) are.0.1 (none_behind (faults_for (Some key) (const_at around pair.0)) (faults_for (Some value) (const_at around pair.1)) here) in
      ((k.0, rest.0), ((k.1, v.1), rest.1))

  first_keys : (all : List (Const × Const)) → map (λ key. key.form) (map (λ pair. const_at around pair.0) all) ≡ map (λ (pair : ℕ × ℕ). pair.0) (map (λ pair. ((const_at around pair.0).form, (const_at around pair.1).form)) all)
  first_keys [] = refl
  first_keys (pair ∷ all) = ap (λ rest. (const_at around pair.0).form ∷ rest) (first_keys all)

  map_first : (key value : Ty) (all : List (Const × Const)) → AllByRecursion (SpelledPair typed around.objects known) all
      → flat_map (pair_faults around key value) all ++ key_faults key [] (map (λ pair. const_at around pair.0) all) ≡ []
      → AreFirst typed (kind.Map key value) (map (λ pair. ((const_at around pair.0).form, (const_at around pair.1).form)) all)
  map_first key value all are none =
      let pair_none = none_front (flat_map (pair_faults around key value) all) (key_faults key [] (map (λ pair. const_at around pair.0) all)) none in
      let key_none = none_behind (flat_map (pair_faults around key value) all) (key_faults key [] (map (λ pair. const_at around pair.0) all)) none in
      let values = pairs_are key value all are pair_none in
      let apart = (keys_apart typed around.objects known key [] (map (λ pair. const_at around pair.0) all) values.0 key_none).1 in
      (pairs _ (subst Apart (first_keys all) apart), All-from_recursion (λ (pair : ℕ × ℕ). IsValue typed key pair.0 × IsValue typed value pair.1) _ values.1)

  one_value : (ty : Ty) (value : ℕ) → IsValue typed ty value → All (λ (pair : ℕ × ℕ). (pair.0 ≡ 0) × IsValue typed ty pair.1) ((0, value) ∷ [])
  one_value ty value is = All-from_recursion (λ (pair : ℕ × ℕ). (pair.0 ≡ 0) × IsValue typed ty pair.1) ((0, value) ∷ []) ((refl, is), tt)

  -- a member is a field or a method as it should be
  abbrev pub IsSound : Member → Type 0
  IsSound m = MatchOption (field_form around m) ⊤ (IsField typed) × MatchOption (method_form around m) ⊤ (IsMethod typed own)

  field_is : {f : NumberedLexemes} (at : ℕ) (name : List ℕ) (ty : Ty) (first : Option Const) → IsName name → SpellsFirst f first → AreSpelled f → member_faults around (Field at name ty first) ≡ [] → IsSound (Field at name ty first)
  field_is at name ty first spelled SpellsFirst.no_first s none = (record { name = spelled; first = (omega arith, All-from_recursion _ [] tt) }, tt)
  field_is at name ty first spelled (SpellsFirst.first {s = q} {a = a} {value = value} v p) s none =
      let is = of_type typed around.objects known ty (const_at around value) (const_is_kept typed around.objects known p (behind q a s)) none in
      (record { name = spelled; first = (omega arith, one_value ty (const_at around value).form is.1) }, tt)

  map_is : {e : NumberedLexemes} (at : ℕ) (name : List ℕ) (key value : Ty) (all : List (Const × Const)) → IsName name → SpellsEntries e all → AreSpelled e → member_faults around (Map at name key value all) ≡ [] → IsSound (Map at name key value all)
  map_is at name key value all spelled p s none = (record { name = spelled; first = map_first key value all (entries_are typed around.objects known p s) none }, tt)

  -- a method whose name has this number and signature
  method_by : {b : NumberedLexemes} (at : ℕ) (name : List ℕ) (params : List Param) (answer : Ty) (body : Block) (found : Option (ℕ × Signature)) (n : ℕ) (signature : Signature) → found ≡ Some (n, signature) → HasMethodName typed own n signature
      → SpellsBlock b body → AreSpelled b → (signature_faults at (signature_of params answer) found ++ parameter_faults no_locals params) ++ (body_passage around params answer body).faults ≡ []
      → IsMethod typed own (record { name = method_number found; locals = (body_passage around params answer body).after.next; body = (body_passage around params answer body).form })
  method_by at name params answer body found n signature is has p s none =
      let front_none = none_front (signature_faults at (signature_of params answer) found ++ parameter_faults no_locals params) (body_passage around params answer body).faults none in
      let body_none = none_behind (signature_faults at (signature_of params answer) found ++ parameter_faults no_locals params) (body_passage around params answer body).faults none in
      let same = same_signature at (signature_of params answer) signature n (subst (λ o. signature_faults at (signature_of params answer) o ≡ []) is (none_front (signature_faults at (signature_of params answer) found) (parameter_faults no_locals params) front_none)) in
      let are = parameters_are [] no_locals params no_parameters (none_behind (signature_faults at (signature_of params answer) found) (parameter_faults no_locals params) front_none) in
      let tys = map (λ param. param.ty) params in
      let keeps = block_fits typed own around agrees answer p s (parameters tys) (parameter_locals no_locals params) (are_locals tys (parameter_locals no_locals params) are) body_none in
      record {
        signature = signature_of params answer;
        has_signature = subst (λ m. slice_get typed.signatures m ≡ Some (signature_of params answer)) (sym (ap method_number is ∙ number_kept (2 ^ 16) n has.small)) (has.signature ∙ ap Some same);
        few_parameters = are.few;
        body = subst (λ next. IsBlock typed own answer (parameters tys) next (body_passage around params answer body).form (body_passage around params answer body).after.next) are.next keeps.is;
        few_locals = keeps.few;
      }

  method_is : {b : NumberedLexemes} (at : ℕ) (name : List ℕ) (params : List Param) (answer : Ty) (body : Block) (n : ℕ) (signature : Signature) → declaration_of around.signatures name ≡ Some (n, signature)
      → SpellsBlock b body → AreSpelled b → member_faults around (Method at name params answer body) ≡ [] → IsSound (Method at name params answer body)
  method_is at name params answer body n signature is p s none = (tt, method_by at name params answer body (declaration_of around.signatures name) n signature is (agrees.methods name n signature is) p s none)

  -- a member that is spelled is as it should be where it has no fault, and its method name, if it has one, is declared
  pub member_is : {a : NumberedLexemes} {m : Member} → SpellsMember a m → AreSpelled a
      → MatchOption (method_signature m) ⊤ (λ one. (n : ℕ) × (signature : Signature) × (declaration_of around.signatures one.0 ≡ Some (n, signature))) → member_faults around m ≡ [] → IsSound m
  member_is (SpellsMember.field {t = t} {n = n} {f = f} {c = c} {at = at} {bytes = bytes} {kind = ty} {value = value} v1 v2 p v3) s there none =
      let behind_type = behind t (n ++ (f ++ c)) s in
      field_is at bytes ty value (name_spelled v2 (front n (f ++ c) behind_type)) p (front f c (behind n (f ++ c) behind_type)) none
  member_is (SpellsMember.map {w = w} {n = n} {s = q} {k = k} {r = r} {v = v} {e = e} {c = c} {at = at} {bytes = bytes} {key = key} {value = value} {pairs = all} v1 v2 v3 v4 v5 v6 p v7) s there none =
      let at_name = behind w (n ++ (q ++ (k ++ (r ++ (v ++ (e ++ c)))))) s in
      let at_key = behind q (k ++ (r ++ (v ++ (e ++ c)))) (behind n (q ++ (k ++ (r ++ (v ++ (e ++ c))))) at_name) in
      let at_entries = behind v (e ++ c) (behind r (v ++ (e ++ c)) (behind k (r ++ (v ++ (e ++ c))) at_key)) in
      map_is at bytes key value all (name_spelled v2 (front n (q ++ (k ++ (r ++ (v ++ (e ++ c))))) at_name)) p (front e c at_entries) none
  member_is (SpellsMember.method {w = w} {n = n} {o = o} {p = p} {c = c} {s = q} {t = t} {b = b} {at = at} {bytes = bytes} {params = params} {answer = answer} {body = body} v1 v2 v3 ps v4 v5 v6 body_spelled) s there none =
      let at_name = behind w (n ++ (o ++ (p ++ (c ++ (q ++ (t ++ b)))))) s in
      let at_params = behind o (p ++ (c ++ (q ++ (t ++ b)))) (behind n (o ++ (p ++ (c ++ (q ++ (t ++ b))))) at_name) in
      let at_body = behind t b (behind q (t ++ b) (behind c (q ++ (t ++ b)) (behind p (c ++ (q ++ (t ++ b))) at_params))) in
      method_is at bytes params answer body there.0 there.1 there.2 body_spelled at_body none
