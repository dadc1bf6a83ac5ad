-- The calls of a line as the code holds them.
use Rattle.std.proofs.Common.{◌≡◌, ℕ, suc, ◌+◌, ◌<◌, Bool, true, false, cond, ◌&&◌, if◌then◌else◌, List, [], ◌∷◌, ◌++◌, Option, Some, None, Ok, Err, length, map, take, drop, get_or, refl, sym, ap, ◌∙◌, Bor, arith, append_assoc, append-nil}
use Rattle.std.specs.Prelude.{nat_le, Result, Vec, IfOk, MatchOption, ⊤}
use Rattle.std.specs.List.{list_all, slice_split, onto_first}
use Rattle.ecf_lang.specs.declared.receipt.StopCause.{StopCause}
use Rattle.ecf_lang.specs.declared.tx.Tx.{Tx}
use Rattle.ecf_lang.specs.declared.tx.TxCall.{TxCall}
use Rattle.ecf_lang.specs.declared.typed.Typed.{Typed}
use Rattle.ecf_lines.specs.Line.{Reading, ◌>>=◌, words, is_skipped, first_call_of, further_call_of, further_calls_of, is_semicolon, calls_in, submitter_of, tx_of_calls, tx_of_words, line_of}
use Rattle.ecf_stream.specs.declared.fault.StreamFault.{StreamFault}
use Rattle.ecf_stream.specs.Calls.{calls_behind}
use Rattle.ecf_stream.specs.StreamFault.{cause_of}
use Rattle.ecf_stream.proofs.WordLaws.{seen}
use Rattle.ecf_stream.proofs.NameLaws.{length_mapped}

-- calls without their references
abbrev pub seen_calls : List (Bor (List (Bor (List ℕ)))) → List (List (List ℕ))
seen_calls calls = map (λ call. seen call.now) calls

-- ---- cut at `;`

onto_seen : (w : Bor (List ℕ)) (parts : List (List (Bor (List ℕ)))) → onto_first w.now (map seen parts) ≡ map seen (onto_first w parts)
onto_seen w [] = refl
onto_seen w (part ∷ parts) = refl

pub split_seen : (ws : List (Bor (List ℕ))) → calls_in (seen ws) ≡ map seen (slice_split (λ (word : Bor (List ℕ)). is_semicolon word.now) ws)
split_seen [] = refl
split_seen (w ∷ ws) = step (is_semicolon w.now) (split_seen ws) where
  step : (b : Bool) → calls_in (seen ws) ≡ map seen (slice_split (λ (word : Bor (List ℕ)). is_semicolon word.now) ws) → cond b ([] ∷ calls_in (seen ws)) (onto_first w.now (calls_in (seen ws))) ≡ map seen (cond b ([] ∷ slice_split (λ (word : Bor (List ℕ)). is_semicolon word.now) ws) (onto_first w (slice_split (λ (word : Bor (List ℕ)). is_semicolon word.now) ws)))
  step true h = ap (λ calls. [] ∷ calls) h
  step false h = ap (onto_first w.now) h ∙ onto_seen w (slice_split (λ (word : Bor (List ℕ)). is_semicolon word.now) ws)

pub seen_twice : (calls : List (Bor (List (Bor (List ℕ))))) → seen_calls calls ≡ map seen (map (λ (call : Bor (List (Bor (List ℕ)))). call.now) calls)
seen_twice [] = refl
seen_twice (call ∷ calls) = ap (λ more. seen call.now ∷ more) (seen_twice calls)

-- what was collected are the calls
pub split_from : {Z E : Type 0} (ws : List (Bor (List ℕ))) (r : Result (Vec (Bor (List (Bor (List ℕ)))) Z) E) → IfOk r (λ v. map (λ (call : Bor (List (Bor (List ℕ)))). call.now) v.items ≡ slice_split (λ (word : Bor (List ℕ)). is_semicolon word.now) ws) → IfOk r (λ v. seen_calls v.items ≡ calls_in (seen ws))
split_from ws (Ok v) e = seen_twice v.items ∙ ap (map seen) e ∙ sym (split_seen ws)
split_from ws (Err e) h = h

-- ---- at least two words in each

pub two_words-seen : (calls : List (Bor (List (Bor (List ℕ))))) → list_all (λ (call : List (List ℕ)). nat_le 2 (length call)) (seen_calls calls) ≡ list_all (λ (call : Bor (List (Bor (List ℕ)))). nat_le 2 (length call.now)) calls
two_words-seen [] = refl
two_words-seen (call ∷ calls) =
    ap (λ n. nat_le 2 n && list_all (λ (call : List (List ℕ)). nat_le 2 (length call)) (seen_calls calls)) (length_mapped (λ (word : Bor (List ℕ)). word.now) call.now)
    ∙ ap (λ b. nat_le 2 (length call.now) && b) (two_words-seen calls)

-- ---- one after the other

regroup : (calls : List TxCall) (call : TxCall) (r : Reading (List TxCall)) → ((r >>= (λ more. Ok (call ∷ more))) >>= (λ more. Ok (calls ++ more))) ≡ (r >>= (λ more. Ok ((calls ++ call ∷ []) ++ more)))
regroup calls call (Ok more) = ap Ok (sym (append_assoc calls (call ∷ []) more))
regroup calls call (Err cause) = refl

pub next_call : (typed : Typed) (calls : List TxCall) (call : TxCall) (words : List (List ℕ)) (more : List (List (List ℕ))) → further_call_of typed words ≡ Ok call → calls_behind typed calls (words ∷ more) ≡ calls_behind typed (calls ++ call ∷ []) more
next_call typed calls call words more e = rw e (regroup calls call (further_calls_of typed more))

pub no_call : (typed : Typed) (calls : List TxCall) (cause : StopCause) (words : List (List ℕ)) (more : List (List (List ℕ))) → further_call_of typed words ≡ Err cause → calls_behind typed calls (words ∷ more) ≡ Err cause
no_call typed calls cause words more e = rw e refl

pub last_call : (typed : Typed) (calls : List TxCall) → calls_behind typed calls [] ≡ Ok calls
last_call typed calls = ap Ok (append-nil calls)

-- ---- the transaction of calls

made : (submitter fuel : ℕ) (call : TxCall) (calls : List TxCall) (r : Reading (List TxCall)) → (r >>= (λ more. Ok (call ∷ more))) ≡ Ok calls → (let tx : Reading Tx = r >>= (λ more. Ok (record { submitter = submitter; fuel = fuel; calls = call ∷ more })) in tx) ≡ Ok (record { submitter = submitter; fuel = fuel; calls = calls })
made submitter fuel call calls (Ok more) e = let is : call ∷ more ≡ calls = cc in ap (λ cs. Ok (record { submitter = submitter; fuel = fuel; calls = cs })) is
made submitter fuel call calls (Err cause) e = let no : ⊥ = cc in absurd no

failed : (submitter fuel : ℕ) (call : TxCall) (cause : StopCause) (r : Reading (List TxCall)) → (r >>= (λ more. Ok (call ∷ more))) ≡ Err cause → (let tx : Reading Tx = r >>= (λ more. Ok (record { submitter = submitter; fuel = fuel; calls = call ∷ more })) in tx) ≡ Err cause
failed submitter fuel call cause (Ok more) e = let no : ⊥ = cc in absurd no
failed submitter fuel call cause (Err other) e = let is : other ≡ cause = cc in ap Err is

pub tx_made : (typed : Typed) (submitter fuel : ℕ) (call : TxCall) (calls : List TxCall) (first : List (List ℕ)) (further : List (List (List ℕ))) → first_call_of typed first ≡ Ok (fuel, call) → calls_behind typed (call ∷ []) further ≡ Ok calls → tx_of_calls typed submitter (first ∷ further) ≡ Ok (record { submitter = submitter; fuel = fuel; calls = calls })
tx_made typed submitter fuel call calls first further e f = rw e (made submitter fuel call calls (further_calls_of typed further) f)

pub tx_failed : (typed : Typed) (submitter fuel : ℕ) (call : TxCall) (cause : StopCause) (first : List (List ℕ)) (further : List (List (List ℕ))) → first_call_of typed first ≡ Ok (fuel, call) → calls_behind typed (call ∷ []) further ≡ Err cause → tx_of_calls typed submitter (first ∷ further) ≡ Err cause
tx_failed typed submitter fuel call cause first further e f = rw e (failed submitter fuel call cause (further_calls_of typed further) f)

-- a fault of a further call is one of the transaction
pub fault_passed : (typed : Typed) (submitter fuel : ℕ) (call : TxCall) (fault : StreamFault) (first : List (List ℕ)) (further : List (List (List ℕ))) → first_call_of typed first ≡ Ok (fuel, call) →
    MatchOption (cause_of fault) ⊤ (λ cause. calls_behind typed (call ∷ []) further ≡ Err cause) → MatchOption (cause_of fault) ⊤ (λ cause. tx_of_calls typed submitter (first ∷ further) ≡ Err cause)
fault_passed typed submitter fuel call fault first further e h = by (cause_of fault) h where
  by : (o : Option StopCause) → MatchOption o ⊤ (λ cause. calls_behind typed (call ∷ []) further ≡ Err cause) → MatchOption o ⊤ (λ cause. tx_of_calls typed submitter (first ∷ further) ≡ Err cause)
  by None h = h
  by (Some cause) h = tx_failed typed submitter fuel call cause first further e h

-- the transaction of words, by their calls
pub tx_by_calls : (typed : Typed) (ws : List (List ℕ)) (submitter : ℕ) (calls : List (List (List ℕ))) → submitter_of ws ≡ Ok submitter → calls ≡ calls_in ws → tx_of_words typed ws ≡ tx_of_calls typed submitter calls
tx_by_calls typed ws submitter calls e f = ap (λ m. m >>= (λ s. tx_of_calls typed s (calls_in ws))) e ∙ ap (tx_of_calls typed submitter) (sym f)

-- what a line says, by its words
pub line_says : (typed : Typed) (line : List ℕ) (ws : List (List ℕ)) (tx : Tx) → is_skipped line ≡ false → ws ≡ words line → tx_of_words typed ws ≡ Ok tx → line_of typed line ≡ Ok (Some tx)
line_says typed line ws tx e f g =
    ap (λ b. if b then Ok None else (tx_of_words typed (words line) >>= (λ tx. Ok (Some tx)))) e
    ∙ ap (λ m. m >>= (λ (tx : Tx). let said : Reading (Option Tx) = Ok (Some tx) in said)) (ap (tx_of_words typed) (sym f) ∙ g)
