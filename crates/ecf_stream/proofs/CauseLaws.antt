-- Which causes the words of a line give: none that speaks of bytes or of reads.
use Rattle.std.proofs.Common.{◌≡◌, ℕ, Bool, true, false, cond, List, [], ◌∷◌, length, Option, Some, None, Ok, Err, refl, sym, ap, subst, ◌∙◌}
use Rattle.std.specs.Prelude.{◌==◌, ◌<◌, if◌then◌else◌, nat_lt}
use Rattle.std.specs.List.{list_any}
use Rattle.std.specs.Option.{ok_or}
use Rattle.ecf_lang.specs.declared.limits.TheConstants.{MAX_TRANSACTIONS, MAX_FUEL}
use Rattle.ecf_lang.specs.declared.receipt.StopCause.{StopCause}
use Rattle.ecf_lang.specs.declared.receipt.StopCause.TheVariants.{Form, Object, Method, Fuel, Arity, Arg, Long, Many, Bytes, Read}
use Rattle.ecf_lang.specs.declared.tx.Tx.{Tx}
use Rattle.ecf_lang.specs.declared.tx.TxCall.{TxCall}
use Rattle.ecf_lang.specs.declared.typed.Typed.{Typed}
use Rattle.ecf_lang.specs.Signatures.{params_of}
use Rattle.ecf_lines.specs.declared.saying.Saying.{Saying}
use Rattle.ecf_lines.specs.declared.saying.Saying.TheVariants.{Nothing, Asks}
use Rattle.ecf_lines.specs.Line.{Reading, ◌>>=◌, words, is_empty, number_within, object_named, method_named, values_of, arguments_of, callee_of, first_call_of, further_call_of, further_calls_of, calls_in, has_form, submitter_of, tx_of_calls, tx_of_words, is_skipped}
use Rattle.ecf_lines.specs.Stream.{watch_of, request_of, control_or, saying_of}
use Rattle.ecf_stream.specs.declared.stream_reader.Reach.{Reach}
use Rattle.ecf_stream.specs.declared.stream_reader.Reach.TheVariants as reach
use Rattle.ecf_stream.specs.StreamState.{reach_by, takes_out}

-- a cause that words may give
abbrev is_of_words : StopCause → Bool
is_of_words Long = false
is_of_words Bytes = false
is_of_words Read = false
is_of_words other = true

-- a reading that gives no other
abbrev OfWords : {A : Type 0} → Reading A → Type 0
OfWords (Ok value) = Unit {0}
OfWords (Err cause) = is_of_words cause ≡ true

-- behind such a cause a source was read as far as its line goes
by_words : (cause : StopCause) (is_whole : Bool) → is_of_words cause ≡ true → reach_by cause is_whole ≡ (if is_whole then reach.Open else reach.AtEnd)
by_words Form b e = refl
by_words Object b e = refl
by_words Method b e = refl
by_words Fuel b e = refl
by_words Arity b e = refl
by_words Arg b e = refl
by_words Many b e = refl
by_words Long b e = let no : ⊥ = cc in absurd no
by_words Bytes b e = let no : ⊥ = cc in absurd no
by_words Read b e = let no : ⊥ = cc in absurd no

-- ---- each part of a line

then_words : {A B : Type 0} (r : Reading A) (next : A → Reading B) → OfWords r → ((value : A) → OfWords (next value)) → OfWords (r >>= next)
then_words (Ok value) next h k = k value
then_words (Err cause) next h k = h

or_words : {A : Type 0} (o : Option A) (cause : StopCause) → is_of_words cause ≡ true → OfWords (ok_or o cause)
or_words None cause e = e
or_words (Some value) cause e = tt

if_words : {A : Type 0} (b : Bool) (r s : Reading A) → OfWords r → OfWords s → OfWords (if b then r else s)
if_words true r s h k = h
if_words false r s h k = k

callee_words : (typed : Typed) (object method : List ℕ) → OfWords (callee_of typed object method)
callee_words typed object method =
    then_words (ok_or (object_named typed object) Object) _ (or_words (object_named typed object) Object refl) (λ to.
    then_words (ok_or (method_named typed to method) Method) _ (or_words (method_named typed to method) Method refl) (λ name. tt))

arguments_words : (typed : Typed) (method : ℕ) (args : List (List ℕ)) → OfWords (arguments_of typed method args)
arguments_words typed method args =
    if_words (length args == length (params_of typed method)) (ok_or (values_of typed (params_of typed method) args) Arg) (Err Arity) (or_words (values_of typed (params_of typed method) args) Arg refl) refl

first_words : (typed : Typed) (ws : List (List ℕ)) → OfWords (first_call_of typed ws)
first_words typed [] = refl
first_words typed (submitter ∷ []) = refl
first_words typed (submitter ∷ object ∷ []) = refl
first_words typed (submitter ∷ object ∷ method ∷ []) = refl
first_words typed (submitter ∷ object ∷ method ∷ fuel ∷ args) =
    then_words (callee_of typed object method) _ (callee_words typed object method) (λ callee.
    then_words (ok_or (number_within 1 MAX_FUEL fuel) Fuel) _ (or_words (number_within 1 MAX_FUEL fuel) Fuel refl) (λ limit.
    then_words (arguments_of typed callee.1 args) _ (arguments_words typed callee.1 args) (λ values. tt)))

further_words : (typed : Typed) (ws : List (List ℕ)) → OfWords (further_call_of typed ws)
further_words typed [] = refl
further_words typed (object ∷ []) = refl
further_words typed (object ∷ method ∷ args) =
    then_words (callee_of typed object method) _ (callee_words typed object method) (λ callee.
    then_words (arguments_of typed callee.1 args) _ (arguments_words typed callee.1 args) (λ values. tt))

all_further_words : (typed : Typed) (calls : List (List (List ℕ))) → OfWords (further_calls_of typed calls)
all_further_words typed [] = tt
all_further_words typed (ws ∷ more) =
    then_words (further_call_of typed ws) _ (further_words typed ws) (λ call.
    then_words (further_calls_of typed more) _ (all_further_words typed more) (λ calls. tt))

calls_words : (typed : Typed) (submitter : ℕ) (calls : List (List (List ℕ))) → OfWords (tx_of_calls typed submitter calls)
calls_words typed submitter [] = refl
calls_words typed submitter (first ∷ further) =
    then_words (first_call_of typed first) _ (first_words typed first) (λ asked.
    then_words (further_calls_of typed further) _ (all_further_words typed further) (λ calls. tt))

submitter_words : (ws : List (List ℕ)) → OfWords (submitter_of ws)
submitter_words [] = refl
submitter_words (submitter ∷ more) = if_words (has_form (submitter ∷ more)) _ (Err Form) (or_words _ Form refl) refl

tx_words : (typed : Typed) (ws : List (List ℕ)) → OfWords (tx_of_words typed ws)
tx_words typed ws = then_words (submitter_of ws) _ (submitter_words ws) (λ submitter. calls_words typed submitter (calls_in ws))

control_words : (o : Option ℕ) (r : Reading Saying) → OfWords r → OfWords (control_or o r)
control_words None r h = h
control_words (Some watch) r h = tt

saying_words : (typed : Typed) (controls : Bool) (txs : ℕ) (line : List ℕ) → OfWords (saying_of typed controls txs line)
saying_words typed controls txs line =
    if_words (is_skipped line) (Ok Nothing) _ tt
    (control_words (watch_of controls (words line)) (request_of typed txs line)
    (if_words (nat_lt txs MAX_TRANSACTIONS) _ (Err Many) (then_words (tx_of_words typed (words line)) _ (tx_words typed (words line)) (λ tx. tt)) refl))

-- how far the source was read where a line stopped the reading
pub reach_of_line : (typed : Typed) (controls : Bool) (txs : ℕ) (line : List ℕ) (cause : StopCause) (is_whole : Bool) → saying_of typed controls txs line ≡ Err cause → reach_by cause is_whole ≡ (if is_whole then reach.Open else reach.AtEnd)
reach_of_line typed controls txs line cause is_whole e = by_words cause is_whole (subst OfWords e (saying_words typed controls txs line))

-- ---- where no control lines are read, none is said

abbrev NoControl : Reading Saying → Type 0
NoControl (Ok saying) = takes_out saying ≡ false
NoControl (Err cause) = Unit {0}

if_no_control : (b : Bool) (r s : Reading Saying) → NoControl r → NoControl s → NoControl (if b then r else s)
if_no_control true r s h k = h
if_no_control false r s h k = k

asks_no_control : (r : Reading Tx) → NoControl (r >>= (λ tx. Ok (Asks tx)))
asks_no_control (Ok tx) = refl
asks_no_control (Err cause) = tt

saying_no_control : (typed : Typed) (txs : ℕ) (line : List ℕ) → NoControl (saying_of typed false txs line)
saying_no_control typed txs line =
    if_no_control (is_skipped line) (Ok Nothing) (request_of typed txs line) refl
    (if_no_control (nat_lt txs MAX_TRANSACTIONS) (tx_of_words typed (words line) >>= (λ tx. Ok (Asks tx))) (Err Many) (asks_no_control (tx_of_words typed (words line))) tt)

pub no_control : (typed : Typed) (controls : Bool) (txs : ℕ) (line : List ℕ) (saying : Saying) → controls ≡ false → saying_of typed controls txs line ≡ Ok saying → takes_out saying ≡ false
no_control typed controls txs line saying c e = subst NoControl (ap (λ b. saying_of typed b txs line) (sym c) ∙ e) (saying_no_control typed txs line)

-- ---- a line that says something isn't skipped

unskipped_by : (b : Bool) (r : Reading Saying) (saying : Saying) → (if b then Ok Nothing else r) ≡ Ok saying → (saying ≡ Nothing → ⊥) → b ≡ false
unskipped_by false r saying e some = refl
unskipped_by true r saying e some = absurd (some (nothing saying e)) where
  nothing : (saying : Saying) → (let said : Reading Saying = Ok Nothing in said) ≡ Ok saying → saying ≡ Nothing
  nothing saying e = cc

pub unskipped : (typed : Typed) (controls : Bool) (txs : ℕ) (line : List ℕ) (saying : Saying) → saying_of typed controls txs line ≡ Ok saying → (saying ≡ Nothing → ⊥) → is_skipped line ≡ false
unskipped typed controls txs line saying e some = unskipped_by (is_skipped line) _ saying e some
