-- What a line that says a transaction shows of its parts.
use Rattle.std.proofs.Common.{◌≡◌, ℕ, ◌-◌, ◌^◌, Bool, true, false, ◌&&◌, if◌then◌else◌, List, [], ◌∷◌, Option, Some, None, Ok, Err, refl, subst, sym, arith}
use Rattle.std.specs.Option.{ok_or}
use Rattle.std.specs.List.{list_any}
use Rattle.ecf_lang.specs.declared.typed.Typed.{Typed}
use Rattle.ecf_lang.specs.declared.tx.Tx.{Tx}
use Rattle.ecf_lang.specs.declared.tx.TxCall.{TxCall}
use Rattle.ecf_lang.specs.declared.limits.TheConstants.{MAX_FUEL}
use Rattle.ecf_lang.specs.declared.receipt.StopCause.{StopCause}
use Rattle.ecf_lang.specs.declared.receipt.StopCause.TheVariants.{Form, Object, Method, Fuel}
use Rattle.ecf_lines.specs.Line.{Reading, ◌>>=◌, words, is_empty, is_skipped, number_within, object_named, method_named, arguments_of, callee_of, first_call_of, further_call_of, further_calls_of, calls_in, has_call_form, has_form, submitter_of, tx_of_calls, tx_of_words, line_of}

pub bind_ok : {A B : Type 0} (m : Reading A) (f : A → Reading B) (y : B) → (m >>= f) ≡ Ok y → (x : A) × (m ≡ Ok x) × (f x ≡ Ok y)
bind_ok (Ok x) f y e = (x, refl, e)
bind_ok (Err c) f y e = let no : ⊥ = cc in absurd no

pub ok_or_ok : {A : Type 0} (o : Option A) (c : StopCause) (x : A) → ok_or o c ≡ Ok x → o ≡ Some x
ok_or_ok None c x e = let no : ⊥ = cc in absurd no
ok_or_ok (Some y) c x e = grind arith

same : {A : Type 0} (x y : A) → (let made : Reading A = Ok x in made) ≡ Ok y → x ≡ y
same x y e = cc

-- what the words of a call are
pub record CallParts (typed : Typed) (object method : List ℕ) (args : List (List ℕ)) (call : TxCall) : Type 0 where
  pub to_is : object_named typed object ≡ Some call.object
  pub name_is : method_named typed call.object method ≡ Some call.method
  pub values_are : arguments_of typed call.method args ≡ Ok call.args

-- the words of the first call, behind the submitter
abbrev pub AsFirst : Typed → List (List ℕ) → ℕ → TxCall → Type 0
AsFirst typed (submitter ∷ object ∷ method ∷ fuel ∷ args) limit call = (number_within 1 MAX_FUEL fuel ≡ Some limit) × CallParts typed object method args call
AsFirst typed few limit call = ⊥

-- the words of a further call
abbrev pub AsFurther : Typed → List (List ℕ) → TxCall → Type 0
AsFurther typed (object ∷ method ∷ args) call = CallParts typed object method args call
AsFurther typed few call = ⊥

-- the words of further calls
abbrev pub AreFurther : Typed → List (List (List ℕ)) → List TxCall → Type 0
AreFurther typed [] [] = Unit {0}
AreFurther typed [] (call ∷ calls) = ⊥
AreFurther typed (words ∷ more) [] = ⊥
AreFurther typed (words ∷ more) (call ∷ calls) = AsFurther typed words call × AreFurther typed more calls

callee_parts : (typed : Typed) (object method : List ℕ) (callee : ℕ × ℕ) → callee_of typed object method ≡ Ok callee → (object_named typed object ≡ Some callee.0) × (method_named typed callee.0 method ≡ Some callee.1)
callee_parts typed object method callee e =
    let a = bind_ok (ok_or (object_named typed object) Object) (λ to. ok_or (method_named typed to method) Method >>= (λ name. Ok (to, name))) callee e in
    let b = bind_ok (ok_or (method_named typed a.0 method) Method) (λ name. Ok (a.0, name)) callee a.2 in
    let is : (a.0, b.0) ≡ callee = same (a.0, b.0) callee b.2 in
    subst (λ (c : ℕ × ℕ). (object_named typed object ≡ Some c.0) × (method_named typed c.0 method ≡ Some c.1)) is (ok_or_ok _ Object a.0 a.1, ok_or_ok _ Method b.0 b.1)

-- the call of a callee with these values
abbrev call_of : ℕ × ℕ → List ℕ → TxCall
call_of callee values = record { object = callee.0; method = callee.1; args = values }

call_parts : (typed : Typed) (object method : List ℕ) (args : List (List ℕ)) (callee : ℕ × ℕ) (values : List ℕ) → callee_of typed object method ≡ Ok callee → arguments_of typed callee.1 args ≡ Ok values → CallParts typed object method args (call_of callee values)
call_parts typed object method args callee values e f = let p = callee_parts typed object method callee e in record { to_is = p.0; name_is = p.1; values_are = f }

pub first_parts : (typed : Typed) (ws : List (List ℕ)) (asked : ℕ × TxCall) → first_call_of typed ws ≡ Ok asked → AsFirst typed ws asked.0 asked.1
first_parts typed [] asked e = let no : ⊥ = cc in absurd no
first_parts typed (a ∷ []) asked e = let no : ⊥ = cc in absurd no
first_parts typed (a ∷ b ∷ []) asked e = let no : ⊥ = cc in absurd no
first_parts typed (a ∷ b ∷ d ∷ []) asked e = let no : ⊥ = cc in absurd no
first_parts typed (a ∷ b ∷ d ∷ f ∷ args) asked e =
    let p = bind_ok (callee_of typed b d) (λ callee. ok_or (number_within 1 MAX_FUEL f) Fuel >>= (λ limit. arguments_of typed callee.1 args >>= (λ values. Ok (limit, call_of callee values)))) asked e in
    let q = bind_ok (ok_or (number_within 1 MAX_FUEL f) Fuel) (λ limit. arguments_of typed (p.0).1 args >>= (λ values. Ok (limit, call_of p.0 values))) asked p.2 in
    let r = bind_ok (arguments_of typed (p.0).1 args) (λ values. Ok (q.0, call_of p.0 values)) asked q.2 in
    let is : (q.0, call_of p.0 r.0) ≡ asked = same (q.0, call_of p.0 r.0) asked r.2 in
    subst (λ (x : ℕ × TxCall). AsFirst typed (a ∷ b ∷ d ∷ f ∷ args) x.0 x.1) is (ok_or_ok _ Fuel q.0 q.1, call_parts typed b d args p.0 r.0 p.1 r.1)

pub further_parts : (typed : Typed) (ws : List (List ℕ)) (call : TxCall) → further_call_of typed ws ≡ Ok call → AsFurther typed ws call
further_parts typed [] call e = let no : ⊥ = cc in absurd no
further_parts typed (a ∷ []) call e = let no : ⊥ = cc in absurd no
further_parts typed (a ∷ b ∷ args) call e =
    let p = bind_ok (callee_of typed a b) (λ callee. arguments_of typed callee.1 args >>= (λ values. Ok (call_of callee values))) call e in
    let q = bind_ok (arguments_of typed (p.0).1 args) (λ values. Ok (call_of p.0 values)) call p.2 in
    let is : call_of p.0 q.0 ≡ call = same (call_of p.0 q.0) call q.2 in
    subst (λ (x : TxCall). AsFurther typed (a ∷ b ∷ args) x) is (call_parts typed a b args p.0 q.0 p.1 q.1)

pub all_parts : (typed : Typed) (further : List (List (List ℕ))) (calls : List TxCall) → further_calls_of typed further ≡ Ok calls → AreFurther typed further calls
all_parts typed [] calls e = let none : [] ≡ calls = same [] calls e in subst (λ (x : List TxCall). AreFurther typed [] x) none tt
all_parts typed (ws ∷ more) calls e =
    let p = bind_ok (further_call_of typed ws) (λ call. further_calls_of typed more >>= (λ calls. Ok (call ∷ calls))) calls e in
    let q = bind_ok (further_calls_of typed more) (λ calls. Ok (p.0 ∷ calls)) calls p.2 in
    let is : p.0 ∷ q.0 ≡ calls = same (p.0 ∷ q.0) calls q.2 in
    subst (λ (x : List TxCall). AreFurther typed (ws ∷ more) x) is (further_parts typed ws p.0 p.1, all_parts typed more q.0 q.1)

-- what the calls of a transaction are
pub record CallsParts (typed : Typed) (submitter : ℕ) (all : List (List (List ℕ))) (tx : Tx) : Type 0 where
  pub first : List (List ℕ)
  pub further : List (List (List ℕ))
  pub call : TxCall
  pub calls : List TxCall
  pub all_are : all ≡ first ∷ further
  pub submitter_is : submitter ≡ tx.submitter
  pub first_is : AsFirst typed first tx.fuel call
  pub further_are : AreFurther typed further calls
  pub calls_are : tx.calls ≡ call ∷ calls

-- the transaction with these calls, the first of them with the fuel limit
abbrev tx_with : ℕ → ℕ × TxCall → List TxCall → Tx
tx_with submitter asked calls = record { submitter = submitter; fuel = asked.0; calls = asked.1 ∷ calls }

pub calls_parts : (typed : Typed) (submitter : ℕ) (all : List (List (List ℕ))) (tx : Tx) → tx_of_calls typed submitter all ≡ Ok tx → CallsParts typed submitter all tx
calls_parts typed submitter [] tx e = let no : ⊥ = cc in absurd no
calls_parts typed submitter (first ∷ further) tx e =
    let p = bind_ok (first_call_of typed first) (λ asked. further_calls_of typed further >>= (λ calls. Ok (tx_with submitter asked calls))) tx e in
    let q = bind_ok (further_calls_of typed further) (λ calls. Ok (tx_with submitter p.0 calls)) tx p.2 in
    let is : tx_with submitter p.0 q.0 ≡ tx = same (tx_with submitter p.0 q.0) tx q.2 in
    subst (λ (t : Tx). CallsParts typed submitter (first ∷ further) t) is (record {
      first = first;
      further = further;
      call = (p.0).1;
      calls = q.0;
      all_are = refl;
      submitter_is = refl;
      first_is = first_parts typed first p.0 p.1;
      further_are = all_parts typed further q.0 q.1;
      calls_are = refl;
    })

chosen : (b : Bool) (m : Reading ℕ) (x : ℕ) → (if b then m else Err Form) ≡ Ok x → (b ≡ true) × (m ≡ Ok x)
chosen true m x e = (refl, e)
chosen false m x e = let no : ⊥ = cc in absurd no

full_form : (empty form : Bool) → (if empty then false else form) ≡ true → (empty ≡ false) × (form ≡ true)
full_form true form e = let no : ⊥ = cc in absurd no
full_form false form e = (refl, e)

-- what the words of a transaction show
pub record WordsParts (typed : Typed) (ws : List (List ℕ)) (tx : Tx) : Type 0 where
  pub submitter : List ℕ
  pub behind : List (List ℕ)
  pub words_are : ws ≡ submitter ∷ behind
  pub full : list_any is_empty ws ≡ false
  pub form : has_call_form (calls_in ws) ≡ true
  pub submitter_is : number_within 0 (2 ^ 32 - 1) submitter ≡ Some tx.submitter
  pub parts : CallsParts typed tx.submitter (calls_in ws) tx

pub words_parts : (typed : Typed) (ws : List (List ℕ)) (tx : Tx) → tx_of_words typed ws ≡ Ok tx → WordsParts typed ws tx
words_parts typed [] tx e = let no : ⊥ = cc in absurd no
words_parts typed (w ∷ ws) tx e =
    let p = bind_ok (submitter_of (w ∷ ws)) (λ submitter. tx_of_calls typed submitter (calls_in (w ∷ ws))) tx e in
    let c = calls_parts typed p.0 (calls_in (w ∷ ws)) tx p.2 in
    let f = chosen (has_form (w ∷ ws)) (ok_or (number_within 0 (2 ^ 32 - 1) w) Form) p.0 p.1 in
    let g = full_form (list_any is_empty (w ∷ ws)) (has_call_form (calls_in (w ∷ ws))) f.0 in
    record {
      submitter = w;
      behind = ws;
      words_are = refl;
      full = g.0;
      form = g.1;
      submitter_is = subst (λ (n : ℕ). number_within 0 (2 ^ 32 - 1) w ≡ Some n) c.submitter_is (ok_or_ok (number_within 0 (2 ^ 32 - 1) w) Form p.0 f.1);
      parts = subst (λ (n : ℕ). CallsParts typed n (calls_in (w ∷ ws)) tx) c.submitter_is c;
    }

-- where a line isn't skipped, what it says is what its words say
said : (skipped : Bool) (m : Reading Tx) (tx : Tx) → (if skipped then Ok None else (m >>= (λ tx. Ok (Some tx)))) ≡ Ok (Some tx) → (skipped ≡ false) × (m ≡ Ok tx)
said true m tx e = let no : ⊥ = grind arith in absurd no
said false (Ok other) tx e = (refl, grind arith)
said false (Err cause) tx e = let no : ⊥ = cc in absurd no

pub words_say : (typed : Typed) (line : List ℕ) (tx : Tx) → line_of typed line ≡ Ok (Some tx) → (is_skipped line ≡ false) × (tx_of_words typed (words line) ≡ Ok tx)
words_say typed line tx e = said (is_skipped line) (tx_of_words typed (words line)) tx e
