-- How the pieces of a form are put together.
use Rattle.std.proofs.Common.{◌≡◌, ℕ, ◌≤◌, List, Result, Ok, Err, refl, ap, sym, subst, ◌∙◌, arith}
use Rattle.std.specs.Result.{IsErrAnd}
use Rattle.std.proofs.lemmas.Result.{err_from_is_err_and}
use Rattle.ecf_lang.specs.declared.run.Cause.{Cause}
use Rattle.ecf_lang.specs.declared.run.Cause.TheVariants.{User, Overflow, DivZero, NoMethod, Depth, Calls}
use Rattle.ecf_lang.specs.Store.{Store}
use Rattle.ecf_lang.specs.Part.{State, Halt, Reverts, RunsOut, Control, Done, Exit, Part, after}
use Rattle.ecf_lang.specs.Meaning.{Flow, Continues, Returns, Opens, or_revert}
use Rattle.ecf_progress.specs.Progress.{Progress}
use Rattle.ecf_progress.specs.declared.frame.OpenFrame.{OpenFrame}
use Rattle.ecf_plain.specs.Leads.{Reaches, EndedBy, Leads, Moves, Does, Piece}
use Rattle.ecf_plain.specs.Stops.{stopped_by}
use Rattle.ecf_plain.specs.declared.stopped.Leaving.{Leaving}
use Rattle.ecf_plain.specs.declared.stopped.Leaving.TheVariants as leaving
use Rattle.ecf_plain.specs.declared.stopped.Stopped.{Stopped}
use Rattle.ecf_plain.specs.declared.stopped.Stopped.TheVariants as stopped

-- what is the same
pub reached : {A : Type 0} (a b : Control A) (p : Progress) → a ≡ b → Reaches a b p p
reached a b p same = record { same = same; backing = refl; spends = omega arith }

-- one after the other
pub further_on : {A : Type 0} {a b c : Control A} {p q r : Progress} → Reaches a b p q → Reaches b c q r → Reaches a c p r
further_on first then = record {
  same = first.same ∙ then.same;
  backing = then.backing ∙ first.backing;
  spends = let x = first.spends in let y = then.spends in omega arith;
}

-- before what comes after it
pub before_more : {A B : Type 0} {a b : Control A} {p q : Progress} (next : A → Part B) → Reaches a b p q → Reaches (after a next) (after b next) p q
before_more next first = record { same = ap (λ c. after c next) first.same; backing = first.backing; spends = first.spends }

-- an end, from what comes to it
pub on_to_end : {A : Type 0} {a b : Control A} {p q : Progress} (stop : Stopped) (r : Progress) → Reaches a b p q → EndedBy b stop q r → EndedBy a stop p r
on_to_end stopped.OutOfFuel r first then = further_on first then
on_to_end stopped.Overflow r first then = further_on first then
on_to_end stopped.DivZero r first then = further_on first then
on_to_end stopped.OutOfMemory r first then = tt
on_to_end stopped.Call r first then = then

-- an end of what is before more
pub ends_more : {A B : Type 0} (a : Control A) (p q : Progress) (next : A → Part B) (stop : Stopped) → EndedBy a stop p q → EndedBy (after a next) stop p q
ends_more a p q next stopped.OutOfFuel first = before_more next first
ends_more a p q next stopped.Overflow first = before_more next first
ends_more a p q next stopped.DivZero first = before_more next first
ends_more a p q next stopped.OutOfMemory first = tt
ends_more a p q next stopped.Call first = first

-- where a piece leads, from what comes to it
pub on_to : {A U : Type 0} {a b : Control A} {p q : Progress} (result : Result U Stopped) (v : A) (r : Progress) → Reaches a b p q → Leads b result v q r → Leads a result v p r
on_to (Ok done) v r first then = further_on first then
on_to (Err stop) v r first then = on_to_end stop r first then

-- the same of a statement
pub on_to_move : {a b : Control Flow} {p q : Progress} (result : Result Leaving Stopped) (locals : List ℕ) (number : ℕ) (r : Progress) → Reaches a b p q → Moves b result locals number q r → Moves a result locals number p r
on_to_move (Ok leaving.Continues) locals number r first then = further_on first then
on_to_move (Ok leaving.Returns) locals number r first then = further_on first then
on_to_move (Ok leaving.Reverts) locals number r first then = further_on first then
on_to_move (Err stop) locals number r first then = on_to_end stop r first then

-- the store stays
pub stays : {A : Type 0} {a b : Control A} {p q : Progress} {store : Store} → Reaches a b p q → p.backing.store ≡ store → q.backing.store ≡ store
stays first is = ap (λ b. b.store) first.backing ∙ is

-- an operator without a value
pub no_value : (cause : Cause) (p : Progress) → EndedBy (or_revert (Err cause) p.run) (stopped_by cause) p p
no_value Overflow p = reached _ _ p refl
no_value DivZero p = reached _ _ p refl
no_value (User n) p = tt
no_value NoMethod p = tt
no_value Depth p = tt
no_value Calls p = tt

-- where a form leads, from what it is the same as
pub as_form : {A U : Type 0} {a b : Control A} (result : Result U Stopped) (v : A) (p q : Progress) → a ≡ b → Leads b result v p q → Leads a result v p q
as_form result v p q same then = on_to result v q (reached _ _ p same) then

-- the answer of a `?`
pub failed : {A U : Type 0} (control : Control A) (result : Result U Stopped) (stop : Stopped) (v : A) (p q : Progress) → IsErrAnd result (λ e. e ≡ stop) → EndedBy control stop p q → Leads control result v p q
failed control result stop v p q err ended =
    let e = err_from_is_err_and result err in
    subst (λ r. Leads control r v p q) (sym (e.1 ∙ ap Err e.2)) ended

pub failed_move : (control : Control Flow) (result : Result Leaving Stopped) (stop : Stopped) (locals : List ℕ) (number : ℕ) (p q : Progress) → IsErrAnd result (λ e. e ≡ stop) → EndedBy control stop p q → Moves control result locals number p q
failed_move control result stop locals number p q err ended =
    let e = err_from_is_err_and result err in
    subst (λ r. Moves control r locals number p q) (sym (e.1 ∙ ap Err e.2)) ended

-- where a statement led, by how it was left
pub continued : (control : Control Flow) (left : Leaving) (locals : List ℕ) (number : ℕ) (p q : Progress) → left ≡ leaving.Continues → Moves control (Ok left) locals number p q → Reaches control (Done (Continues locals) q.run) p q
continued control left locals number p q is moves = subst (λ (l : Leaving). Moves control (Ok l) locals number p q) is moves

pub returned : (control : Control Flow) (left : Leaving) (locals : List ℕ) (number : ℕ) (p q : Progress) → left ≡ leaving.Returns → Moves control (Ok left) locals number p q → Reaches control (Done (Returns number) q.run) p q
returned control left locals number p q is moves = subst (λ (l : Leaving). Moves control (Ok l) locals number p q) is moves

pub reverted : (control : Control Flow) (left : Leaving) (locals : List ℕ) (number : ℕ) (p q : Progress) → left ≡ leaving.Reverts → Moves control (Ok left) locals number p q → Reaches control (Exit (Reverts (User number)) q.run) p q
reverted control left locals number p q is moves = subst (λ (l : Leaving). Moves control (Ok l) locals number p q) is moves
