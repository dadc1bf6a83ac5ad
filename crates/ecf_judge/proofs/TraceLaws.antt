-- Tables and traces with one step more.
use Rattle.std.proofs.Common.{◌≡◌, ℕ, zero, suc, ◌+◌, ◌<◌, ◌≤◌, Bool, true, false, cond, ◌&&◌, ◌==◌, List, [], ◌∷◌, ◌++◌, length, get_or, slice_set, take, drop, drop-cons, replicate, inl, inr, refl, sym, ap, ◌∙◌, subst, arith, add-one, get_or-set_other, get_or-set_same}
use Rattle.std.specs.List.{list_all}
use Rattle.std.proofs.lemmas.Bool.{cases_eq, eq-eqb, ne_eqb}
use Rattle.std.proofs.lemmas.List.{append-nil}
use Rattle.std.proofs.lemmas.List.Elements.{filter-append}
use Rattle.ecf_judge.specs.Membership.{with_member, membership, membership_from, TracesAre}
use Rattle.ecf_judge.specs.declared.membership.Membership.{Membership}
use Rattle.ecf_judge.specs.declared.membership.Membership.TheVariants.{Nobody, Several}
use Rattle.ecf_lang.specs.declared.run.Step.{Step}
use Rattle.ecf_verdicts.specs.Traces.{trace}
use Rattle.ecf_judge.proofs.MembershipLaws.{from_next, nobody_several}

-- what is read where no step is
abbrev pub zero_step : Step
zero_step = record { inv = 0; write = false; cell = record { object = 0; field = 0; key = 0 }; value = 0 }

-- the steps that were read, with one more
pub take_next : (steps : List Step) (k : ℕ) (d : Step) → k < length steps → take (k + 1) steps ≡ take k steps ++ get_or steps k d ∷ []
take_next steps k d h = rw (add-one k) (go steps k h)
  where
    go : (us : List Step) (n : ℕ) → n < length us → take (suc n) us ≡ take n us ++ get_or us n d ∷ []
    go [] n l = absurd (omega (arith, l))
    go (u ∷ us) zero l = refl
    go (u ∷ us) (suc n) l = ap (λ vs. u ∷ vs) (go us n (omega (arith, l)))

trace_same : (t : List Step) (s : Step) (o : ℕ) → s.cell.object ≡ o → trace (t ++ s ∷ []) o ≡ trace t o ++ s ∷ []
unfolding trace
trace_same t s o e = filter-append (λ (u : Step). u.cell.object == o) t (s ∷ []) ∙ ap (λ b. trace t o ++ cond b (s ∷ []) []) (eq-eqb s.cell.object o e)

trace_other : (t : List Step) (s : Step) (o : ℕ) → (s.cell.object ≡ o → ⊥) → trace (t ++ s ∷ []) o ≡ trace t o
unfolding trace
trace_other t s o n = filter-append (λ (u : Step). u.cell.object == o) t (s ∷ []) ∙ (ap (λ b. trace t o ++ cond b (s ∷ []) []) (ne_eqb s.cell.object o n) ∙ append-nil (trace t o))

-- the table with one step more
pub table_next : (t : List Step) (s : Step) (table : List Membership) (m : Membership) → s.cell.object < length table →
    ((o : ℕ) → get_or table o Nobody ≡ membership (trace t o)) → m ≡ with_member (get_or table s.cell.object Nobody) s.inv →
    (o : ℕ) → get_or (slice_set table s.cell.object m) o Nobody ≡ membership (trace (t ++ s ∷ []) o)
table_next t s table m h tells e o = elim (cases_eq s.cell.object o) [
  | inl same ↦
      (subst (λ x. get_or (slice_set table s.cell.object m) x Nobody ≡ m) same (get_or-set_same table s.cell.object m Nobody h)
      ∙ (e ∙ (ap (λ x. with_member x s.inv) (ap (λ x. get_or table x Nobody) same ∙ tells o)
      ∙ (sym (from_next Nobody (trace t o) s) ∙ ap (membership_from Nobody) (sym (trace_same t s o same))))))
  | inr n ↦ (get_or-set_other table s.cell.object o m Nobody (λ f. n (sym f)) ∙ (tells o ∙ ap (membership_from Nobody) (sym (trace_other t s o n))))
]

-- the table with one step more that changes nothing
table_kept : (t : List Step) (s : Step) (table : List Membership) → with_member (get_or table s.cell.object Nobody) s.inv ≡ get_or table s.cell.object Nobody →
    ((o : ℕ) → get_or table o Nobody ≡ membership (trace t o)) → (o : ℕ) → get_or table o Nobody ≡ membership (trace (t ++ s ∷ []) o)
table_kept t s table kept tells o = elim (cases_eq s.cell.object o) [
  | inl same ↦
      (subst (λ x. get_or table x Nobody ≡ with_member (get_or table x Nobody) s.inv) same (sym kept)
      ∙ (ap (λ x. with_member x s.inv) (tells o) ∙ (sym (from_next Nobody (trace t o) s) ∙ ap (membership_from Nobody) (sym (trace_same t s o same)))))
  | inr n ↦ (tells o ∙ ap (membership_from Nobody) (sym (trace_other t s o n)))
]

-- the traces with one step more
pub traces_next : (t : List Step) (s : Step) (table : List Membership) (traces : List (List Step)) (v : List Step) → s.cell.object < length traces →
    TracesAre t table traces → v ≡ get_or traces s.cell.object [] ++ s ∷ [] → TracesAre (t ++ s ∷ []) table (slice_set traces s.cell.object v)
traces_next t s table traces v h are e o several = elim (cases_eq s.cell.object o) [
  | inl same ↦
      (subst (λ x. get_or (slice_set traces s.cell.object v) x [] ≡ v) same (get_or-set_same traces s.cell.object v [] h)
      ∙ (e ∙ (ap (λ l. l ++ s ∷ []) (ap (λ x. get_or traces x []) same ∙ are o several) ∙ sym (trace_same t s o same))))
  | inr n ↦ (get_or-set_other traces s.cell.object o v [] (λ f. n (sym f)) ∙ (are o several ∙ sym (trace_other t s o n)))
]

pub traces_skip : (t : List Step) (s : Step) (table : List Membership) (traces : List (List Step)) →
    (get_or table s.cell.object Nobody ≡ Several → ⊥) → TracesAre t table traces → TracesAre (t ++ s ∷ []) table traces
traces_skip t s table traces n are o several =
    are o several ∙ sym (trace_other t s o (λ same. n (ap (λ x. get_or table x Nobody) same ∙ several)))

-- the same for the step at a place
pub table_at : (steps : List Step) (k : ℕ) (d : Step) (table : List Membership) (m : Membership) → k < length steps → (get_or steps k d).cell.object < length table →
    ((o : ℕ) → get_or table o Nobody ≡ membership (trace (take k steps) o)) → m ≡ with_member (get_or table (get_or steps k d).cell.object Nobody) (get_or steps k d).inv →
    (o : ℕ) → get_or (slice_set table (get_or steps k d).cell.object m) o Nobody ≡ membership (trace (take (k + 1) steps) o)
table_at steps k d table m inside h tells e o =
    table_next (take k steps) (get_or steps k d) table m h tells e o ∙ ap (λ u. membership (trace u o)) (sym (take_next steps k d inside))

pub kept_at : (steps : List Step) (k : ℕ) (d : Step) (table : List Membership) → k < length steps →
    with_member (get_or table (get_or steps k d).cell.object Nobody) (get_or steps k d).inv ≡ get_or table (get_or steps k d).cell.object Nobody →
    ((o : ℕ) → get_or table o Nobody ≡ membership (trace (take k steps) o)) → (o : ℕ) → get_or table o Nobody ≡ membership (trace (take (k + 1) steps) o)
kept_at steps k d table inside kept tells o =
    table_kept (take k steps) (get_or steps k d) table kept tells o ∙ ap (λ u. membership (trace u o)) (sym (take_next steps k d inside))

pub traces_at : (steps : List Step) (k : ℕ) (d : Step) (table : List Membership) (traces : List (List Step)) (v : List Step) → k < length steps →
    (get_or steps k d).cell.object < length traces → TracesAre (take k steps) table traces → v ≡ get_or traces (get_or steps k d).cell.object [] ++ get_or steps k d ∷ [] →
    TracesAre (take (k + 1) steps) table (slice_set traces (get_or steps k d).cell.object v)
traces_at steps k d table traces v inside h are e o several =
    traces_next (take k steps) (get_or steps k d) table traces v h are e o several ∙ ap (λ u. trace u o) (sym (take_next steps k d inside))

pub skipped_at : (steps : List Step) (k : ℕ) (d : Step) (table : List Membership) (traces : List (List Step)) → k < length steps →
    (get_or table (get_or steps k d).cell.object Nobody ≡ Several → ⊥) → TracesAre (take k steps) table traces → TracesAre (take (k + 1) steps) table traces
skipped_at steps k d table traces inside n are o several =
    traces_skip (take k steps) (get_or steps k d) table traces n are o several ∙ ap (λ u. trace u o) (sym (take_next steps k d inside))

-- before any step
pub table_none : (n o : ℕ) → get_or (replicate n Nobody) o Nobody ≡ membership (trace [] o)
unfolding trace membership_from
table_none zero o = refl
table_none (suc n) zero = refl
table_none (suc n) (suc o) = table_none n o

pub traces_none : (table : List Membership) (traces : List (List Step)) → ((o : ℕ) → get_or traces o [] ≡ []) → TracesAre [] table traces
unfolding trace
traces_none table traces e o several = e o

-- one empty trace more
pub empty_next : (traces : List (List Step)) (v : List Step) → v ≡ [] → ((o : ℕ) → get_or traces o [] ≡ []) → (o : ℕ) → get_or (traces ++ v ∷ []) o [] ≡ []
empty_next [] v e none zero = e
empty_next [] v e none (suc o) = refl
empty_next (t ∷ traces) v e none zero = none zero
empty_next (t ∷ traces) v e none (suc o) = empty_next traces v e (λ p. none (suc p)) o

pub empty_all : (traces : List (List Step)) → traces ≡ [] → (o : ℕ) → get_or traces o [] ≡ []
empty_all traces e o = rw e refl

-- objects with several are below a number
abbrev pub SeveralBelow : List Membership → ℕ → Type 0
SeveralBelow table n = (o : ℕ) → get_or table o Nobody ≡ Several → o < n

pub below_next : (table : List Membership) (at : ℕ) (m : Membership) (n n' : ℕ) → at < length table → n ≤ n' → (m ≡ Several → at < n') → SeveralBelow table n → SeveralBelow (slice_set table at m) n'
below_next table at m n n' h longer several below o e = elim (cases_eq o at) [
  | inl same ↦
      let is : m ≡ Several = sym (get_or-set_same table at m Nobody h) ∙ (ap (λ x. get_or (slice_set table at m) x Nobody) (sym same) ∙ e) in
      let l = several is in omega (arith, l, same)
  | inr apart ↦ (let l = below o (sym (get_or-set_other table at o m Nobody apart) ∙ e) in omega (arith, l, longer))
]

-- before any step there are none
all_nobody : (n o : ℕ) → get_or (replicate n Nobody) o Nobody ≡ Nobody
all_nobody zero o = refl
all_nobody (suc n) zero = refl
all_nobody (suc n) (suc o) = all_nobody n o

pub below_none : (n : ℕ) → SeveralBelow (replicate n Nobody) 0
below_none n o e = absurd (nobody_several _ (all_nobody n o) e)

-- where none is below 0 no object has several, and no traces are asked for
pub traces_zero : (t : List Step) (table : List Membership) (n : ℕ) (traces : List (List Step)) → n ≡ 0 → SeveralBelow table n → TracesAre t table traces
traces_zero t table n traces e below o several = absurd (let l = below o several in omega (arith, l, e))

-- a test along a list, a place at a time
pub all_fails : {X : Type 0} (f : X → Bool) (xs : List X) (k : ℕ) (d : X) → k < length xs → f (get_or xs k d) ≡ false → list_all f (drop k xs) ≡ false
all_fails f xs k d h e = ap (λ l. list_all f l) (drop-cons xs k d h) ∙ ap (λ b. b && list_all f (drop (suc k) xs)) e

pub all_skip : {X : Type 0} (f : X → Bool) (xs : List X) (k : ℕ) (d : X) → k < length xs → f (get_or xs k d) ≡ true → list_all f (drop (k + 1) xs) ≡ list_all f (drop k xs)
all_skip f xs k d h e = ap (λ n. list_all f (drop n xs)) (add-one k) ∙ sym (ap (λ l. list_all f l) (drop-cons xs k d h) ∙ ap (λ b. b && list_all f (drop (suc k) xs)) e)
