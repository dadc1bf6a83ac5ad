-- The transaction that a line says fits the contract.
use Rattle.std.proofs.Common.{◌≡◌, ◌≤◌, ◌<◌, ℕ, zero, suc, ◌-◌, ◌^◌, Bool, true, false, ◌&&◌, if◌then◌else◌, List, [], ◌∷◌, Option, Some, None, Ok, Err, length, map, refl, sym, ap, subst, ◌∙◌, arith}
use Rattle.std.specs.Prelude.{◌==◌, All, IsSome, is_some, slice_get, MatchOption, option_and_then, nat_le, nat_lt}
use Rattle.std.specs.List.{list_all}
use Rattle.std.specs.Option.{option_map, option_map_or, ok_or}
use Rattle.std.specs.Str.{bytes_eq}
use Rattle.std.proofs.lemmas.Option.{cond_some}
use Rattle.std.proofs.lemmas.List.Elements.{All-cons, All-nil}
use Rattle.std.proofs.lemmas.List.Quantifiers.{position-Some}
use Rattle.ecf_decimal.specs.Decimal.{number_value, is_numeral}
use Rattle.ecf_lang.specs.declared.tree.Ty.{Ty}
use Rattle.ecf_lang.specs.declared.tree.Ty.TheVariants.{Num, Flag, Addr}
use Rattle.ecf_lang.specs.declared.typed.Typed.{Typed}
use Rattle.ecf_lang.specs.declared.typed.TypedObject.{TypedObject}
use Rattle.ecf_lang.specs.declared.typed.Signature.{Signature}
use Rattle.ecf_lang.specs.declared.tx.Tx.{Tx}
use Rattle.ecf_lang.specs.declared.tx.TxCall.{TxCall}
use Rattle.ecf_lang.specs.declared.limits.TheConstants.{MAX_CALLS, MAX_FUEL}
use Rattle.ecf_lang.specs.declared.receipt.StopCause.TheVariants.{Arity, Arg}
use Rattle.ecf_lang.specs.Fits.{Fits, CallFits, ArgumentsFit, IsValue, method_at}
use Rattle.ecf_lang.specs.Signatures.{params_of}
use Rattle.ecf_lines.specs.Line.{Reading, IsNumbered, words, number_within, number_named, object_names, object_named, method_named, value_of, values_of, has_call_form, tx_of_words}
use Rattle.ecf_lines.specs.LineLaws.{LinesFit}
use Rattle.ecf_lines.proofs.PartLaws.{ok_or_ok, CallParts, AsFirst, AsFurther, AreFurther, words_parts, words_say}

-- a number that was read is in its range
pub in_range : (least most : ℕ) (word : List ℕ) (n : ℕ) → number_within least most word ≡ Some n → (least ≤ n) × (n ≤ most)
in_range least most word n e = tested (is_numeral word) least most (number_value word) n e where
  tested : (numeral : Bool) (least most value n : ℕ) → (if numeral && nat_le least value && nat_le value most then Some value else None) ≡ Some n → (least ≤ n) × (n ≤ most)
  tested numeral least most value n e = grind arith

length_mapped : {X Y : Type 0} (v : X → Y) (xs : List X) → length (map v xs) ≡ length xs
length_mapped v [] = refl
length_mapped v (x ∷ xs) = omega (arith, length_mapped v xs)

-- an object that was found is there
pub object_within : (typed : Typed) (word : List ℕ) (n : ℕ) → object_named typed word ≡ Some n → n < length typed.objects
object_within typed word n e =
    let found = position-Some (bytes_eq word) (object_names typed) n [] e in
    let same = length_mapped (λ (o : TypedObject). o.name) typed.objects in
    let within = found.0 in
    omega (arith, within, same)

pub is_value : (typed : Typed) (ty : Ty) (word : List ℕ) (value : ℕ) → value_of typed ty word ≡ Some value → IsValue typed ty value
is_value typed Num word value e = let r = in_range 0 (2 ^ 128 - 1) word value e in let most = r.1 in omega (arith, most)
is_value typed Flag word value e = flag (bytes_eq word (116 ∷ 114 ∷ 117 ∷ 101 ∷ [])) (bytes_eq word (102 ∷ 97 ∷ 108 ∷ 115 ∷ 101 ∷ [])) value e where
  flag : (on off : Bool) (value : ℕ) → (if on then Some 1 else if off then Some 0 else None) ≡ Some value → value < 2
  flag true off value e = grind arith
  flag false true value e = grind arith
  flag false false value e = grind arith
is_value typed Addr word value e = object_within typed word value e

pub both : (first : Option ℕ) (rest : Option (List ℕ)) (values : List ℕ) → option_and_then (λ v. option_map (λ vs. v ∷ vs) rest) first ≡ Some values → (v : ℕ) × (vs : List ℕ) × (first ≡ Some v) × (rest ≡ Some vs) × (v ∷ vs ≡ values)
both None rest values e = let none : ⊥ = cc in absurd none
both (Some v) None values e = let none : ⊥ = cc in absurd none
both (Some v) (Some vs) values e = (v, vs, refl, refl, grind arith)

pub are_values : (typed : Typed) (params : List Ty) (args : List (List ℕ)) (values : List ℕ) → values_of typed params args ≡ Some values → ArgumentsFit typed params values
are_values typed [] [] values e = let none : [] ≡ values = grind arith in subst (λ vs. ArgumentsFit typed [] vs) none tt
are_values typed [] (word ∷ more) values e = let none : ⊥ = cc in absurd none
are_values typed (ty ∷ params) [] values e = let none : ⊥ = cc in absurd none
are_values typed (ty ∷ params) (word ∷ more) values e =
    let p = both (value_of typed ty word) (values_of typed params more) values e in
    subst (λ vs. ArgumentsFit typed (ty ∷ params) vs) p.4 (is_value typed ty word p.0 p.2, are_values typed params more p.1 p.3)

-- a name that passes a test was found, and passes
pub there : (named : Option ℕ) (has : ℕ → Bool) (n : ℕ) → option_and_then (λ name. if has name then Some name else None) named ≡ Some n → (has n ≡ true) × (named ≡ Some n)
there None has n e = let none : ⊥ = cc in absurd none
there (Some m) has n e = let t = cond_some (has m) m n e in (subst (λ k. has k ≡ true) t.1 t.0, ap Some t.1)

-- a method that was found is in the object, and its number is that of a name
pub method_there : (typed : Typed) (object : ℕ) (word : List ℕ) (n : ℕ) → method_named typed object word ≡ Some n → IsSome (method_at typed object n) × (n < length typed.names)
method_there typed object word n e =
    let t = there (number_named typed.names word) (λ name. is_some (method_at typed object name)) n e in
    let found = position-Some (bytes_eq word) typed.names n [] t.1 in
    (t.0, found.0)

there_is : {X : Type 0} (xs : List X) (n : ℕ) → n < length xs → is_some (slice_get xs n) ≡ true
there_is [] n h = absurd (omega (arith, h))
there_is (x ∷ xs) zero h = refl
there_is (x ∷ xs) (suc n) h = there_is xs n (omega (arith, h))

-- arguments that fit the parameters fit the signature, where there is one
signed : (typed : Typed) (o : Option Signature) (values : List ℕ) → IsSome o → ArgumentsFit typed (option_map_or (λ s. s.params) o []) values → MatchOption o ⊥ (λ s. ArgumentsFit typed s.params values)
signed typed None values h fit = let none : ⊥ = cc in absurd none
signed typed (Some s) values h fit = fit

pub as_many : (same : Bool) (m : Reading (List ℕ)) (values : List ℕ) → (if same then m else Err Arity) ≡ Ok values → m ≡ Ok values
as_many true m values e = e
as_many false m values e = let none : ⊥ = cc in absurd none

-- at most MAX_CALLS calls
pub few_calls : (first : List (List ℕ)) (further : List (List (List ℕ))) → has_call_form (first ∷ further) ≡ true → length further < MAX_CALLS
few_calls first further e = tested (nat_le 4 (length first)) (list_all (λ (call : List (List ℕ)). nat_le 2 (length call)) further) (length further) MAX_CALLS e where
  tested : (a b : Bool) (m n : ℕ) → (a && b && nat_lt m n) ≡ true → m < n
  tested true true m n e = grind arith
  tested true false m n e = let no : ⊥ = cc in absurd no
  tested false b m n e = let no : ⊥ = cc in absurd no

call_fits : (typed : Typed) (object method : List ℕ) (args : List (List ℕ)) (call : TxCall) → IsNumbered typed → CallParts typed object method args call → CallFits typed call
call_fits typed object method args call numbered p =
    let m = method_there typed call.object method call.method p.name_is in
    let named = m.1 in
    let signatures = numbered.signatures in
    let params = params_of typed call.method in
    let read = ok_or_ok (values_of typed params args) Arg call.args (as_many (length args == length params) (ok_or (values_of typed params args) Arg) call.args p.values_are) in
    let fit = are_values typed params args call.args read in
    record {
      method = m.0;
      arguments = signed typed (slice_get typed.signatures call.method) call.args (there_is typed.signatures call.method (omega (arith, named, signatures))) fit;
    }

further_fits : (typed : Typed) (ws : List (List ℕ)) (call : TxCall) → IsNumbered typed → AsFurther typed ws call → CallFits typed call
further_fits typed [] call numbered p = absurd p
further_fits typed (a ∷ []) call numbered p = absurd p
further_fits typed (a ∷ b ∷ args) call numbered p = call_fits typed a b args call numbered p

all_fit : (typed : Typed) (further : List (List (List ℕ))) (calls : List TxCall) → IsNumbered typed → AreFurther typed further calls → (length calls ≡ length further) × All (CallFits typed) calls
all_fit typed [] [] numbered p = (refl, All-nil (CallFits typed))
all_fit typed [] (call ∷ calls) numbered p = absurd p
all_fit typed (ws ∷ more) [] numbered p = absurd p
all_fit typed (ws ∷ more) (call ∷ calls) numbered p =
    let rest = all_fit typed more calls numbered p.1 in
    let same = rest.0 in
    (omega (arith, same), All-cons (CallFits typed) call calls (further_fits typed ws call numbered p.0) rest.1)

-- the first call fits, and so does the fuel limit
first_fits : (typed : Typed) (ws : List (List ℕ)) (limit : ℕ) (call : TxCall) → IsNumbered typed → AsFirst typed ws limit call → (1 ≤ limit) × (limit ≤ MAX_FUEL) × CallFits typed call
first_fits typed [] limit call numbered p = absurd p
first_fits typed (a ∷ []) limit call numbered p = absurd p
first_fits typed (a ∷ b ∷ []) limit call numbered p = absurd p
first_fits typed (a ∷ b ∷ d ∷ []) limit call numbered p = absurd p
first_fits typed (a ∷ b ∷ d ∷ f ∷ args) limit call numbered p =
    let fuel = in_range 1 MAX_FUEL f limit p.0 in
    (fuel.0, fuel.1, call_fits typed b d args call numbered p.1)

pub fits_words : (typed : Typed) (ws : List (List ℕ)) (tx : Tx) → IsNumbered typed → tx_of_words typed ws ≡ Ok tx → Fits typed tx
fits_words typed ws tx numbered e =
    let w = words_parts typed ws tx e in
    let p = w.parts in
    let few = few_calls p.first p.further (sym (ap has_call_form p.all_are) ∙ w.form) in
    let first = first_fits typed p.first tx.fuel p.call numbered p.first_is in
    let rest = all_fit typed p.further p.calls numbered p.further_are in
    let same = rest.0 in
    let count : length tx.calls ≡ suc (length p.calls) = ap length p.calls_are in
    record {
      some_call = omega (arith, count);
      few_calls = omega (arith, count, same, few);
      calls = subst (All (CallFits typed)) (sym p.calls_are) (All-cons (CallFits typed) p.call p.calls first.2 rest.1);
      some_fuel = first.0;
      fuel = first.1;
    }

pub lines_fit : LinesFit
lines_fit typed line tx numbered e = let said = words_say typed line tx e in fits_words typed (words line) tx numbered said.1
