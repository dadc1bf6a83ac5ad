-- What a line says is what it spells.
use Rattle.std.proofs.Common.{◌≡◌, ◌<◌, ◌⊎◌, inl, inr, ℕ, ◌-◌, ◌^◌, Bool, true, false, cond, ◌&&◌, ◌||◌, if◌then◌else◌, List, [], ◌∷◌, ◌++◌, Some, None, Ok, length, get_or, refl, sym, ap, subst, ◌∙◌, arith}
use Rattle.std.specs.Prelude.{◌==◌, is_some, nat_le, codes}
use Rattle.std.specs.List.{list_any, onto_first, join_with_byte}
use Rattle.std.specs.Option.{ok_or}
use Rattle.std.specs.Str.{bytes_eq}
use Rattle.std.specs.Cmp.Lexicographic.{same_text, other_text}
use Rattle.std.proofs.lemmas.Option.{slice_get-get_or, get_or_from_slice_get}
use Rattle.std.proofs.lemmas.List.Quantifiers.{position-Some}
use Rattle.std.proofs.lemmas.List.Splits.{length-slice_split, join_with_byte-slice_split}
use Rattle.ecf_decimal.specs.Decimal.{is_numeral, number_value}
use Rattle.ecf_lang.specs.declared.tree.Ty.{Ty}
use Rattle.ecf_lang.specs.declared.tree.Ty.TheVariants.{Num, Flag, Addr}
use Rattle.ecf_lang.specs.declared.typed.Typed.{Typed}
use Rattle.ecf_lang.specs.declared.tx.Tx.{Tx}
use Rattle.ecf_lang.specs.declared.tx.TxCall.{TxCall}
use Rattle.ecf_lang.specs.declared.limits.TheConstants.{MAX_FUEL}
use Rattle.ecf_lang.specs.declared.receipt.StopCause.TheVariants.{Arg}
use Rattle.ecf_lang.specs.Fits.{method_at}
use Rattle.ecf_lang.specs.Signatures.{params_of}
use Rattle.ecf_lines.specs.Line.{words, is_empty, is_semicolon, number_within, number_named, object_names, value_of, values_of, calls_in, has_call_form, tx_of_words, line_of}
use Rattle.ecf_lines.specs.Spelled.{has_space, with_semicolons, SpellsNumber, IsNamed, SpellsValue, SpellsValues, SpellsCall, SpellsFurther, SpellFurther, SpellsTx}
use Rattle.ecf_lines.proofs.PartLaws.{ok_or_ok, CallParts, AsFirst, AsFurther, AreFurther, words_parts, words_say}
use Rattle.ecf_lines.proofs.FitLaws.{in_range, both, there, as_many, few_calls}

-- two tests that both fail
pub neither : (a b : Bool) → (a || b) ≡ false → (a ≡ false) × (b ≡ false)
neither true b e = let none : ⊥ = cc in absurd none
neither false b e = (refl, e)

-- no word of a line has a space in it
apart_words : (line : List ℕ) → list_any has_space (words line) ≡ false
apart_words [] = refl
apart_words (x ∷ xs) = step (x == 32) x (words xs) (λ is. is) (apart_words xs) refl where
  front : (x : ℕ) (parts : List (List ℕ)) → (x == 32) ≡ false → list_any has_space parts ≡ false → list_any has_space (onto_first x parts) ≡ false
  front x [] e h = rw e refl
  front x (part ∷ parts) e h = rw e h

  step : (b : Bool) (x : ℕ) (parts : List (List ℕ)) → (⊥ → ⊥) → list_any has_space parts ≡ false → b ≡ (x == 32) → list_any has_space (cond b ([] ∷ parts) (onto_first x parts)) ≡ false
  step true x parts k h e = h
  step false x parts k h e = front x parts (sym e) h

number_spelled : (least most : ℕ) (word : List ℕ) (n : ℕ) → number_within least most word ≡ Some n → SpellsNumber word n
number_spelled least most word n e = let t = tested (is_numeral word) least most (number_value word) n e in record { numeral = t.0; value = t.1 } where
  tested : (numeral : Bool) (least most value n : ℕ) → (if numeral && nat_le least value && nat_le value most then Some value else None) ≡ Some n → (numeral ≡ true) × (value ≡ n)
  tested true least most value n e = (refl, grind arith)
  tested false least most value n e = let none : ⊥ = cc in absurd none

named : (names : List (List ℕ)) (word : List ℕ) (n : ℕ) → number_named names word ≡ Some n → IsNamed names word n
named names word n e =
    let found = position-Some (bytes_eq word) names n [] e in
    let same : word ≡ get_or names n [] = same_text word (get_or names n []) (sym found.1) in
    record {
      there = slice_get-get_or names n [] found.0 ∙ ap Some (sym same);
      first = λ k below there. other_text word (get_or names k []) (sym (found.2 k below)) (sym (get_or_from_slice_get names k word [] there));
    }

value_spelled : (typed : Typed) (ty : Ty) (word : List ℕ) (value : ℕ) → value_of typed ty word ≡ Some value → SpellsValue typed ty word value
value_spelled typed Num word value e = let r = in_range 0 (2 ^ 128 - 1) word value e in let most = r.1 in (number_spelled 0 (2 ^ 128 - 1) word value e, omega (arith, most))
value_spelled typed Flag word value e = flag (bytes_eq word (codes "true")) (bytes_eq word (codes "false")) value e (same_text word (codes "true")) (same_text word (codes "false")) where
  flag : {A B : Type 0} (on off : Bool) (value : ℕ) → (if on then Some 1 else if off then Some 0 else None) ≡ Some value → (true ≡ on → A) → (true ≡ off → B) → (A × (value ≡ 1)) ⊎ (B × (value ≡ 0))
  flag true off value e a b = inl (a refl, grind arith)
  flag false true value e a b = inr (b refl, grind arith)
  flag false false value e a b = let none : ⊥ = cc in absurd none
value_spelled typed Addr word value e = named (object_names typed) word value e

values_spelled : (typed : Typed) (params : List Ty) (args : List (List ℕ)) (values : List ℕ) → values_of typed params args ≡ Some values → SpellsValues typed params args values
values_spelled typed [] [] values e = let none : [] ≡ values = grind arith in subst (λ vs. SpellsValues typed [] [] vs) none tt
values_spelled typed [] (word ∷ more) values e = let none : ⊥ = cc in absurd none
values_spelled typed (ty ∷ params) [] values e = let none : ⊥ = cc in absurd none
values_spelled typed (ty ∷ params) (word ∷ more) values e =
    let p = both (value_of typed ty word) (values_of typed params more) values e in
    subst (λ vs. SpellsValues typed (ty ∷ params) (word ∷ more) vs) p.4 (value_spelled typed ty word p.0 p.2, values_spelled typed params more p.1 p.3)

call_spelled : (typed : Typed) (object method : List ℕ) (args : List (List ℕ)) (call : TxCall) → CallParts typed object method args call → SpellsCall typed object method args call
call_spelled typed object method args call p =
    let m = there (number_named typed.names method) (λ name. is_some (method_at typed call.object name)) call.method p.name_is in
    let params = params_of typed call.method in
    let read = ok_or_ok (values_of typed params args) Arg call.args (as_many (length args == length params) (ok_or (values_of typed params args) Arg) call.args p.values_are) in
    record {
      object_is = named (object_names typed) object call.object p.to_is;
      method_is = named typed.names method call.method m.1;
      has_method = m.0;
      args_are = values_spelled typed params args call.args read;
    }

further_spelled : (typed : Typed) (ws : List (List ℕ)) (call : TxCall) → AsFurther typed ws call → SpellsFurther typed ws call
further_spelled typed [] call p = p
further_spelled typed (a ∷ []) call p = p
further_spelled typed (a ∷ b ∷ args) call p = call_spelled typed a b args call p

all_spelled : (typed : Typed) (further : List (List (List ℕ))) (calls : List TxCall) → AreFurther typed further calls → SpellFurther typed further calls
all_spelled typed [] [] p = tt
all_spelled typed [] (call ∷ calls) p = p
all_spelled typed (ws ∷ more) [] p = p
all_spelled typed (ws ∷ more) (call ∷ calls) p = (further_spelled typed ws call p.0, all_spelled typed more calls p.1)

-- no word of a call is the one that stands between calls
apart_calls : (ws : List (List ℕ)) → list_any (list_any is_semicolon) (calls_in ws) ≡ false
apart_calls [] = refl
apart_calls (w ∷ ws) = step (is_semicolon w) w (calls_in ws) (apart_calls ws) refl where
  front : (w : List ℕ) (parts : List (List (List ℕ))) → is_semicolon w ≡ false → list_any (list_any is_semicolon) parts ≡ false → list_any (list_any is_semicolon) (onto_first w parts) ≡ false
  front w [] e h = rw e refl
  front w (part ∷ parts) e h = rw e h

  step : (b : Bool) (w : List ℕ) (parts : List (List (List ℕ))) → list_any (list_any is_semicolon) parts ≡ false → b ≡ is_semicolon w → list_any (list_any is_semicolon) (cond b ([] ∷ parts) (onto_first w parts)) ≡ false
  step true w parts h e = h
  step false w parts h e = front w parts (sym e) h

-- the words of calls, a `;` between each two
abbrev rejoined : List (List (List ℕ)) → List (List ℕ)
rejoined [] = []
rejoined (first ∷ further) = first ++ with_semicolons further

calls_rejoined : (ws : List (List ℕ)) → rejoined (calls_in ws) ≡ ws
calls_rejoined [] = refl
calls_rejoined (w ∷ ws) = step (is_semicolon w) w ws (calls_in ws) (some ws) (calls_rejoined ws) refl where
  some : (ws : List (List ℕ)) → 0 < length (calls_in ws)
  some ws = let count = length-slice_split is_semicolon ws in omega (arith, count)

  step : (b : Bool) (w : List ℕ) (ws : List (List ℕ)) (parts : List (List (List ℕ))) → 0 < length parts → rejoined parts ≡ ws → b ≡ is_semicolon w → rejoined (cond b ([] ∷ parts) (onto_first w parts)) ≡ w ∷ ws
  step b w ws [] h e is = let no : ⊥ = omega (arith, h) in absurd no
  step true w ws (first ∷ further) h e is = ap (λ ws. codes ";" ∷ ws) e ∙ ap (λ w. w ∷ ws) (sym (same_text w (codes ";") is))
  step false w ws (first ∷ further) h e is = ap (λ ws. w ∷ ws) e

-- the words of a first call, and of the line that it begins
pub record FirstSpelled (typed : Typed) (first : List (List ℕ)) (limit : ℕ) (call : TxCall) : Type 0 where
  pub submitter : List ℕ
  pub object : List ℕ
  pub method : List ℕ
  pub fuel : List ℕ
  pub args : List (List ℕ)
  pub words_are : first ≡ submitter ∷ object ∷ method ∷ fuel ∷ args
  pub limit_is : number_within 1 MAX_FUEL fuel ≡ Some limit
  pub call_is : SpellsCall typed object method args call

first_spelled : (typed : Typed) (first : List (List ℕ)) (limit : ℕ) (call : TxCall) → AsFirst typed first limit call → FirstSpelled typed first limit call
first_spelled typed [] limit call p = absurd p
first_spelled typed (a ∷ []) limit call p = absurd p
first_spelled typed (a ∷ b ∷ []) limit call p = absurd p
first_spelled typed (a ∷ b ∷ d ∷ []) limit call p = absurd p
first_spelled typed (a ∷ b ∷ d ∷ f ∷ args) limit call p =
    record { submitter = a; object = b; method = d; fuel = f; args = args; words_are = refl; limit_is = p.0; call_is = call_spelled typed b d args call p.1 }

abbrev first_word : List (List ℕ) → List ℕ
first_word [] = []
first_word (word ∷ more) = word

words_spelled : (typed : Typed) (line : List ℕ) (tx : Tx) → tx_of_words typed (words line) ≡ Ok tx → SpellsTx typed line tx
words_spelled typed line tx e =
    let w = words_parts typed (words line) tx e in
    let p = w.parts in
    let f = first_spelled typed p.first tx.fuel p.call p.first_is in
    let all = (f.submitter ∷ f.object ∷ f.method ∷ f.fuel ∷ f.args) ++ with_semicolons p.further in
    let split : calls_in (words line) ≡ (f.submitter ∷ f.object ∷ f.method ∷ f.fuel ∷ f.args) ∷ p.further = p.all_are ∙ ap (λ first. first ∷ p.further) f.words_are in
    let is : words line ≡ all = sym (calls_rejoined (words line)) ∙ ap rejoined split in
    let begins : w.submitter ≡ f.submitter = ap first_word (sym w.words_are ∙ is) in
    let apart = neither (list_any is_semicolon (f.submitter ∷ f.object ∷ f.method ∷ f.fuel ∷ f.args)) (list_any (list_any is_semicolon) p.further) (sym (ap (list_any (list_any is_semicolon)) split) ∙ apart_calls (words line)) in
    let submitter_is = subst (λ word. number_within 0 (2 ^ 32 - 1) word ≡ Some tx.submitter) begins w.submitter_is in
    let from = in_range 0 (2 ^ 32 - 1) f.submitter tx.submitter submitter_is in
    let from_most = from.1 in
    let limit = in_range 1 MAX_FUEL f.fuel tx.fuel f.limit_is in
    record {
      submitter = f.submitter;
      object = f.object;
      method = f.method;
      fuel = f.fuel;
      args = f.args;
      further = p.further;
      call = p.call;
      calls = p.calls;
      line_is = sym (join_with_byte-slice_split 32 line) ∙ ap (join_with_byte 32) is;
      full = sym (ap (list_any is_empty) is) ∙ w.full;
      apart = sym (ap (list_any has_space) is) ∙ apart_words line;
      one_first = apart.0;
      one_each = apart.1;
      submitter_is = number_spelled 0 (2 ^ 32 - 1) f.submitter tx.submitter submitter_is;
      submitter_fits = omega (arith, from_most);
      fuel_is = number_spelled 1 MAX_FUEL f.fuel tx.fuel f.limit_is;
      some_fuel = limit.0;
      fuel_fits = limit.1;
      call_is = f.call_is;
      calls_are = all_spelled typed p.further p.calls p.further_are;
      few = few_calls (f.submitter ∷ f.object ∷ f.method ∷ f.fuel ∷ f.args) p.further (sym (ap has_call_form split) ∙ w.form);
      all_calls = p.calls_are;
    }

pub said_is_spelled : (typed : Typed) (line : List ℕ) (tx : Tx) → line_of typed line ≡ Ok (Some tx) → SpellsTx typed line tx
said_is_spelled typed line tx e = let said = words_say typed line tx e in words_spelled typed line tx said.1
