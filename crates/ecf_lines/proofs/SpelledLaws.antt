-- What a line spells is what it says.
use Rattle.std.proofs.Common.{◌≡◌, ◌≢◌, inl, inr, ◌≤◌, ◌<◌, ℕ, suc, ◌-◌, ◌^◌, Bool, true, false, cond, ◌&&◌, ◌||◌, if◌then◌else◌, List, [], ◌∷◌, ◌++◌, Option, Some, None, Ok, Err, length, get_or, refl, sym, ap, subst, ◌∙◌, arith, ltb}
use Rattle.std.specs.Prelude.{◌==◌, is_some, option_and_then, nat_le, nat_lt}
use Rattle.std.specs.Bool.{MatchBool}
use Rattle.std.specs.List.{list_all, list_any, onto_first, join_with_byte, position_or_len}
use Rattle.std.specs.Option.{ok_or}
use Rattle.std.specs.Str.{bytes_eq}
use Rattle.std.specs.Cmp.Lexicographic.{told_text}
use Rattle.std.proofs.lemmas.Option.{slice_get-get_or, get_or_from_slice_get, slice_get_within}
use Rattle.std.proofs.lemmas.List.Sums.{position_or_len_is}
use Rattle.ecf_decimal.specs.Decimal.{is_numeral, number_value}
use Rattle.ecf_lang.specs.declared.tree.Ty.{Ty}
use Rattle.ecf_lang.specs.declared.tree.Ty.TheVariants.{Num, Flag, Addr}
use Rattle.ecf_lang.specs.declared.typed.Typed.{Typed}
use Rattle.ecf_lang.specs.declared.tx.Tx.{Tx}
use Rattle.ecf_lang.specs.declared.tx.TxCall.{TxCall}
use Rattle.ecf_lang.specs.declared.limits.TheConstants.{MAX_CALLS, MAX_FUEL}
use Rattle.ecf_lang.specs.declared.receipt.StopCause.TheVariants.{Form, Arity, Arg}
use Rattle.ecf_lang.specs.Fits.{method_at}
use Rattle.ecf_lang.specs.Signatures.{params_of}
use Rattle.ecf_lines.specs.Line.{Reading, ◌>>=◌, words, is_empty, is_skipped, is_semicolon, number_within, number_named, object_names, value_of, values_of, arguments_of, callee_of, first_call_of, further_call_of, further_calls_of, calls_in, has_call_form, has_form, submitter_of, tx_of_calls, tx_of_words, line_of}
use Rattle.ecf_lines.specs.Spelled.{has_space, with_semicolons, SpellsNumber, IsNamed, SpellsValue, SpellsValues, SpellsCall, SpellsFurther, SpellFurther, SpellsTx}
use Rattle.ecf_lines.proofs.SaidLaws.{neither}

-- a word ends at the first space
word_ends : (word rest : List ℕ) → has_space word ≡ false → words (word ++ 32 ∷ rest) ≡ word ∷ words rest
word_ends [] rest e = refl
word_ends (x ∷ xs) rest e =
    let t = neither (x == 32) (has_space xs) e in
    ap (λ b. cond b ([] ∷ words (xs ++ 32 ∷ rest)) (onto_first x (words (xs ++ 32 ∷ rest)))) t.0
    ∙ ap (onto_first x) (word_ends xs rest t.1)

one_word : (word : List ℕ) → has_space word ≡ false → words word ≡ word ∷ []
one_word [] e = refl
one_word (x ∷ xs) e =
    let t = neither (x == 32) (has_space xs) e in
    ap (λ b. cond b ([] ∷ words xs) (onto_first x (words xs))) t.0 ∙ ap (onto_first x) (one_word xs t.1)

words_joined : (word : List ℕ) (more : List (List ℕ)) → list_any has_space (word ∷ more) ≡ false → words (join_with_byte 32 (word ∷ more)) ≡ word ∷ more
words_joined word [] e = let t = neither (has_space word) false e in one_word word t.0
words_joined word (next ∷ more) e =
    let t = neither (has_space word) (list_any has_space (next ∷ more)) e in
    word_ends word (join_with_byte 32 (next ∷ more)) t.0 ∙ ap (λ ws. word ∷ ws) (words_joined next more t.1)

number_read : (least most : ℕ) (word : List ℕ) (n : ℕ) → SpellsNumber word n → least ≤ n → n ≤ most → number_within least most word ≡ Some n
number_read least most word n spelled low high = tested (is_numeral word) least most (number_value word) n spelled.numeral spelled.value low high where
  tested : (numeral : Bool) (least most value n : ℕ) → numeral ≡ true → value ≡ n → least ≤ n → n ≤ most → (if numeral && nat_le least value && nat_le value most then Some value else None) ≡ Some n
  tested numeral least most value n e is low high = grind arith

told_false : (P Q : Type 0) (b : Bool) → MatchBool b P Q → ¬ P → b ≡ false
told_false P Q true told other = absurd (other told)
told_false P Q false told other = refl

told_true : (P Q : Type 0) (b : Bool) → MatchBool b P Q → ¬ Q → b ≡ true
told_true P Q true told same = refl
told_true P Q false told same = absurd (same told)

differs : (xs ys : List ℕ) → xs ≢ ys → bytes_eq xs ys ≡ false
differs xs ys other = told_false (xs ≡ ys) (xs ≢ ys) (bytes_eq xs ys) (told_text xs ys (bytes_eq xs ys) refl) other

equals : (xs ys : List ℕ) → xs ≡ ys → bytes_eq xs ys ≡ true
equals xs ys same = told_true (xs ≡ ys) (xs ≢ ys) (bytes_eq xs ys) (told_text xs ys (bytes_eq xs ys) refl) (λ other. other same)

name_read : (names : List (List ℕ)) (word : List ℕ) (n : ℕ) → IsNamed names word n → number_named names word ≡ Some n
name_read names word n named =
    let within = slice_get_within names n word named.there in
    let place : position_or_len (bytes_eq word) names ≡ n = position_or_len_is (bytes_eq word) names n [] (omega (arith, within))
    (λ k below. let inside : k < length names = omega (arith, within, below) in
    differs word (get_or names k []) (λ same. named.first k below (slice_get-get_or names k [] inside ∙ ap Some (sym same))))
    (λ inside. equals word (get_or names n []) (sym (get_or_from_slice_get names n word [] named.there))) in
    ap (λ i. cond (ltb i (length names)) (Some i) None) place ∙ found n (length names) within where
      found : (n len : ℕ) → n < len → cond (ltb n len) (Some n) None ≡ Some n
      found n len h = grind arith

method_read : (named : Option ℕ) (has : ℕ → Bool) (n : ℕ) → named ≡ Some n → has n ≡ true → option_and_then (λ name. if has name then Some name else None) named ≡ Some n
method_read named has n e h = rw (e, h) refl

value_read : (typed : Typed) (ty : Ty) (word : List ℕ) (value : ℕ) → SpellsValue typed ty word value → value_of typed ty word ≡ Some value
value_read typed Num word value spelled = let below = spelled.1 in number_read 0 (2 ^ 128 - 1) word value spelled.0 (omega arith) (omega (arith, below))
value_read typed Flag word value (inl on) = subst (λ w. value_of typed Flag w ≡ Some value) (sym on.0) (ap Some (sym on.1))
value_read typed Flag word value (inr off) = subst (λ w. value_of typed Flag w ≡ Some value) (sym off.0) (ap Some (sym off.1))
value_read typed Addr word value spelled = name_read (object_names typed) word value spelled

-- as many words as parameters, and their values
pub record Read (typed : Typed) (params : List Ty) (args : List (List ℕ)) (values : List ℕ) : Type 0 where
  pub lengths : length args ≡ length params
  pub values_are : values_of typed params args ≡ Some values

values_read : (typed : Typed) (params : List Ty) (args : List (List ℕ)) (values : List ℕ) → SpellsValues typed params args values → Read typed params args values
values_read typed [] [] [] spelled = record { lengths = refl; values_are = refl }
values_read typed [] [] (value ∷ values) spelled = absurd spelled
values_read typed [] (word ∷ more) values spelled = absurd spelled
values_read typed (ty ∷ params) [] values spelled = absurd spelled
values_read typed (ty ∷ params) (word ∷ more) [] spelled = absurd spelled
values_read typed (ty ∷ params) (word ∷ more) (value ∷ values) spelled =
    let rest = values_read typed params more values spelled.1 in
    let lengths = rest.lengths in
    record {
      lengths = omega (arith, lengths);
      values_are = rw (value_read typed ty word value spelled.0, rest.values_are) refl;
    }

same_length : (m n : ℕ) → m ≡ n → (m == n) ≡ true
same_length m n e = grind arith

-- what a call reads
record Called (typed : Typed) (object method : List ℕ) (args : List (List ℕ)) (call : TxCall) : Type 0 where
  pub callee_is : callee_of typed object method ≡ Ok (call.object, call.method)
  pub args_are : arguments_of typed call.method args ≡ Ok call.args

call_read : (typed : Typed) (object method : List ℕ) (args : List (List ℕ)) (call : TxCall) → SpellsCall typed object method args call → Called typed object method args call
call_read typed object method args call s =
    let params = params_of typed call.method in
    let read = values_read typed params args call.args s.args_are in
    let to_is = name_read (object_names typed) object call.object s.object_is in
    let name_is = method_read (number_named typed.names method) (λ name. is_some (method_at typed call.object name)) call.method (name_read typed.names method call.method s.method_is) s.has_method in
    record {
      callee_is = rw (to_is, name_is) refl;
      args_are =
          ap (λ b. if b then ok_or (values_of typed params args) Arg else Err Arity) (same_length (length args) (length params) read.lengths)
          ∙ ap (λ o. ok_or o Arg) read.values_are;
    }

further_read : (typed : Typed) (ws : List (List ℕ)) (call : TxCall) → SpellsFurther typed ws call → (nat_le 2 (length ws) ≡ true) × (further_call_of typed ws ≡ Ok call)
further_read typed [] call s = absurd s
further_read typed (a ∷ []) call s = absurd s
further_read typed (a ∷ b ∷ args) call s =
    let p = call_read typed a b args call s in
    (two (length args), rw (p.callee_is, p.args_are) refl)
  where
    two : (n : ℕ) → nat_le 2 (suc (suc n)) ≡ true
    two n = grind arith

all_read : (typed : Typed) (further : List (List (List ℕ))) (calls : List TxCall) → SpellFurther typed further calls → (list_all (λ (words : List (List ℕ)). nat_le 2 (length words)) further ≡ true) × (further_calls_of typed further ≡ Ok calls)
all_read typed [] [] s = (refl, refl)
all_read typed [] (call ∷ calls) s = absurd s
all_read typed (ws ∷ more) [] s = absurd s
all_read typed (ws ∷ more) (call ∷ calls) s =
    let first = further_read typed ws call s.0 in
    let rest = all_read typed more calls s.1 in
    (rw (first.0, rest.0) refl, rw (first.1, rest.1) refl)

-- words before the first `;` are the words of one call
in_front : (first rest : List (List ℕ)) (others : List (List (List ℕ))) → list_any is_semicolon first ≡ false → calls_in rest ≡ [] ∷ others → calls_in (first ++ rest) ≡ first ∷ others
in_front [] rest others e h = h
in_front (w ∷ ws) rest others e h =
    let t = neither (is_semicolon w) (list_any is_semicolon ws) e in
    ap (λ b. cond b ([] ∷ calls_in (ws ++ rest)) (onto_first w (calls_in (ws ++ rest)))) t.0
    ∙ ap (onto_first w) (in_front ws rest others t.1 h)

behind : (further : List (List (List ℕ))) → list_any (list_any is_semicolon) further ≡ false → calls_in (with_semicolons further) ≡ [] ∷ further
behind [] e = refl
behind (ws ∷ more) e =
    let t = neither (list_any is_semicolon ws) (list_any (list_any is_semicolon) more) e in
    ap (λ calls. [] ∷ calls) (in_front ws (with_semicolons more) more t.0 (behind more t.1))

-- enough calls, and few enough
form_read : (first : List (List ℕ)) (further : List (List (List ℕ))) → 4 ≤ length first → list_all (λ (words : List (List ℕ)). nat_le 2 (length words)) further ≡ true → length further < MAX_CALLS → has_call_form (first ∷ further) ≡ true
form_read first further four two few = tested (length first) (list_all (λ (words : List (List ℕ)). nat_le 2 (length words)) further) (length further) MAX_CALLS four two few where
  tested : (l : ℕ) (b : Bool) (m n : ℕ) → 4 ≤ l → b ≡ true → m < n → (nat_le 4 l && b && nat_lt m n) ≡ true
  tested l true m n four e few = grind arith
  tested l false m n four e few = let no : ⊥ = cc in absurd no

abbrev first_of : List (List ℕ) → List ℕ
first_of [] = []
first_of (word ∷ more) = word

no_number : (parts : List (List ℕ)) → is_numeral (first_of (onto_first 35 parts)) ≡ true → ⊥
no_number [] e = cc
no_number (part ∷ parts) e = cc

-- a line whose first word is a number isn't skipped
hash : (b : Bool) (x : ℕ) (xs : List ℕ) → (x == 35) ≡ b → is_numeral (first_of (words (x ∷ xs))) ≡ true → b ≡ false
hash false x xs e h = refl
hash true x xs e h = let same : x ≡ 35 = grind arith in absurd (no_number (words xs) (subst (λ y. is_numeral (first_of (words (y ∷ xs))) ≡ true) same h))

goes_on : (line : List ℕ) → is_numeral (first_of (words line)) ≡ true → is_skipped line ≡ false
goes_on [] h = cc
goes_on (x ∷ xs) h = hash (x == 35) x xs refl h

pub spelled_is_said : (typed : Typed) (line : List ℕ) (tx : Tx) → SpellsTx typed line tx → line_of typed line ≡ Ok (Some tx)
spelled_is_said typed line tx s =
    let first = s.submitter ∷ s.object ∷ s.method ∷ s.fuel ∷ s.args in
    let more = s.object ∷ s.method ∷ s.fuel ∷ (s.args ++ with_semicolons s.further) in
    let words_are : words line ≡ s.submitter ∷ more = ap words s.line_is ∙ words_joined s.submitter more s.apart in
    let calls_are : calls_in (s.submitter ∷ more) ≡ first ∷ s.further = in_front first (with_semicolons s.further) s.further s.one_first (behind s.further s.one_each) in
    let further = all_read typed s.further s.calls s.calls_are in
    let four : 4 ≤ length first = omega arith in
    let form : has_call_form (calls_in (s.submitter ∷ more)) ≡ true = ap has_call_form calls_are ∙ form_read first s.further four further.0 s.few in
    let fits = s.submitter_fits in
    let from_is = number_read 0 (2 ^ 32 - 1) s.submitter tx.submitter s.submitter_is (omega arith) (omega (arith, fits)) in
    let has : has_form (s.submitter ∷ more) ≡ true = ap (λ b. if b then false else has_call_form (calls_in (s.submitter ∷ more))) s.full ∙ form in
    let submitter_is : submitter_of (s.submitter ∷ more) ≡ Ok tx.submitter =
    ap (λ b. if b then ok_or (number_within 0 (2 ^ 32 - 1) s.submitter) Form else Err Form) has ∙ ap (λ o. ok_or o Form) from_is in
    let call = call_read typed s.object s.method s.args s.call s.call_is in
    let limit_is = number_read 1 MAX_FUEL s.fuel tx.fuel s.fuel_is s.some_fuel s.fuel_fits in
    let first_is : first_call_of typed first ≡ Ok (tx.fuel, s.call) = rw (call.callee_is, limit_is, call.args_are) refl in
    let calls = ap (λ (calls : List TxCall). let made : Reading Tx = Ok (record { submitter = tx.submitter; fuel = tx.fuel; calls = calls }) in made) (sym s.all_calls) in
    let made : tx_of_words typed (s.submitter ∷ more) ≡ Ok tx =
    ap (λ m. m >>= (λ submitter. tx_of_calls typed submitter (calls_in (s.submitter ∷ more)))) submitter_is
    ∙ ap (tx_of_calls typed tx.submitter) calls_are
    ∙ rw (first_is, further.1) calls in
    let say : Reading Tx → Reading (Option Tx) = λ m. m >>= (λ tx. Ok (Some tx)) in
    let skip = goes_on line (ap (λ ws. is_numeral (first_of ws)) words_are ∙ s.submitter_is.numeral) in
    ap (λ b. if b then Ok None else say (tx_of_words typed (words line))) skip
    ∙ ap say (ap (tx_of_words typed) words_are ∙ made)
