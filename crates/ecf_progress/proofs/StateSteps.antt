-- What charges, reads and writes do to a state.
use Rattle.std.proofs.Common.{◌≡◌, ℕ, zero, suc, ◌+◌, ◌-◌, ◌^◌, ◌<◌, ◌≤◌, true, false, List, [], ◌∷◌, ◌++◌, length, get_or, Some, None, ◌⊎◌, inl, inr, map, take, drop, refl, ap, sym, subst, ◌∙◌, arith}
use Rattle.std.specs.Prelude.{nat_le, slice_get}
use Rattle.std.proofs.lemmas.Bool.Decides.{nat_tests}
use Rattle.std.proofs.lemmas.List.{length-set, length-append, length-map, take-append-drop}
use Rattle.std.proofs.lemmas.List.Elements.{All-set, All-append, All-cons, All-nil, All-head, All-tail}
use Rattle.std.proofs.lemmas.Option.{slice_get_cases}
use Rattle.ecf_lang.specs.declared.cell.Cell.{Cell}
use Rattle.ecf_lang.specs.declared.run.Invocation.{Invocation}
use Rattle.ecf_lang.specs.Store.{Store, set}
use Rattle.ecf_lang.specs.Part.{State, Exit, Done, RunsOut, pay, read_cell, write_cell, with_change, with_charge, with_read, as_undone, value_now}
use Rattle.ecf_progress.specs.Charges.{ChargesFit}

-- a charge that exceeds what is left
pub pay_short : (inv n : ℕ) (s : State) → s.fuel < n → pay inv n s ≡ Exit RunsOut (record s { fuel = 0 })
unfolding pay
pay_short inv n s short = let e : nat_le n s.fuel ≡ false = grind (arith, nat_tests) in rw e refl

-- a charge that is paid
pub pay_enough : (inv n : ℕ) (s : State) → n ≤ s.fuel → pay inv n s ≡ Done tt (record s { fuel = s.fuel - n; invocations = with_change (with_charge n) s.invocations inv })
unfolding pay
pay_enough inv n s enough = let e : nat_le n s.fuel ≡ true = grind (arith, nat_tests) in rw e refl

-- a charge keeps the bound
pub ChargesFit-pay : (fuel n inv : ℕ) (is : List Invocation) → n ≤ fuel → ChargesFit fuel is → ChargesFit (fuel - n) (with_change (with_charge n) is inv)
ChargesFit-pay fuel n inv is enough bounded = by_cases (slice_get_cases is inv).1
  where
    by_cases : ((one : Invocation) × (inv < length is) × (slice_get is inv ≡ Some one) × (get_or is inv one ≡ one)) ⊎ ((length is ≤ inv) × (slice_get is inv ≡ None)) → ChargesFit (fuel - n) (with_change (with_charge n) is inv)
    by_cases (inr none) = rw none.1 (λ k d within. omega (arith, bounded k d within))
    by_cases (inl some) =
        let one = some.0 in
        let there : one.own_fuel + fuel < 2 ^ 32 = rw some.3 at (bounded inv one some.1) in
        rw some.2 (All-set (λ one. one.own_fuel + (fuel - n) < 2 ^ 32) is inv (with_charge n one) (omega arith) (λ k d within. omega (arith, bounded k d within)))

-- a change that charges nothing keeps the bound
pub ChargesFit-with_change : (change : Invocation → Invocation) → ((one : Invocation) → (change one).own_fuel ≡ one.own_fuel) → (fuel inv : ℕ) (is : List Invocation) → ChargesFit fuel is → ChargesFit fuel (with_change change is inv)
ChargesFit-with_change change free fuel inv is bounded = by_cases (slice_get_cases is inv).1
  where
    by_cases : ((one : Invocation) × (inv < length is) × (slice_get is inv ≡ Some one) × (get_or is inv one ≡ one)) ⊎ ((length is ≤ inv) × (slice_get is inv ≡ None)) → ChargesFit fuel (with_change change is inv)
    by_cases (inr none) = rw none.1 bounded
    by_cases (inl some) =
        let one = some.0 in
        let there : one.own_fuel + fuel < 2 ^ 32 = rw some.3 at (bounded inv one some.1) in
        rw some.2 (All-set (λ one. one.own_fuel + fuel < 2 ^ 32) is inv (change one) (omega (arith, free one)) bounded)

-- and so do a new invocation, and a mark of some as undone
pub ChargesFit-grown : (fuel : ℕ) (is new : List Invocation) (one : Invocation) → new ≡ is ++ one ∷ [] → fuel < 2 ^ 32 → one.own_fuel ≡ 0 → ChargesFit fuel is → ChargesFit fuel new
ChargesFit-grown fuel is new one grown fits free bounded =
    let within : one.own_fuel + fuel < 2 ^ 32 = omega arith in
    subst (ChargesFit fuel) (sym grown) (All-append (λ one. one.own_fuel + fuel < 2 ^ 32) is (one ∷ []) bounded (All-cons (λ one. one.own_fuel + fuel < 2 ^ 32) one [] within (All-nil (λ one. one.own_fuel + fuel < 2 ^ 32))))

pub ChargesFit-undone : (fuel n : ℕ) (is : List Invocation) → ChargesFit fuel is → ChargesFit fuel (take n is ++ map as_undone (drop n is))
ChargesFit-undone fuel zero is bounded = undone is bounded
  where
    undone : (is : List Invocation) → ChargesFit fuel is → ChargesFit fuel (map as_undone is)
    undone [] bounded = bounded
    undone (one ∷ is) bounded = All-cons (λ one. one.own_fuel + fuel < 2 ^ 32) (as_undone one) (map as_undone is) (All-head (λ one. one.own_fuel + fuel < 2 ^ 32) one is bounded) (undone is (All-tail (λ one. one.own_fuel + fuel < 2 ^ 32) one is bounded))
ChargesFit-undone fuel (suc n) [] bounded = bounded
ChargesFit-undone fuel (suc n) (one ∷ is) bounded =
    All-cons (λ one. one.own_fuel + fuel < 2 ^ 32) one (take n is ++ map as_undone (drop n is)) (All-head (λ one. one.own_fuel + fuel < 2 ^ 32) one is bounded) (ChargesFit-undone fuel n is (All-tail (λ one. one.own_fuel + fuel < 2 ^ 32) one is bounded))

-- which keeps their number too
pub length-undone : (n : ℕ) (is : List Invocation) → length (take n is ++ map as_undone (drop n is)) ≡ length is
length-undone n is = length-append (take n is) (map as_undone (drop n is)) ∙ ap (λ k. length (take n is) + k) (length-map (drop n is) as_undone) ∙ sym (length-append (take n is) (drop n is)) ∙ ap length (take-append-drop n is)

-- a change of one invocation keeps their number
pub length-with_change : (change : Invocation → Invocation) (is : List Invocation) (n : ℕ) → length (with_change change is n) ≡ length is
length-with_change change is n = by_cases (slice_get_cases is n).1
  where
    by_cases : ((one : Invocation) × (n < length is) × (slice_get is n ≡ Some one) × (get_or is n one ≡ one)) ⊎ ((length is ≤ n) × (slice_get is n ≡ None)) → length (with_change change is n) ≡ length is
    by_cases (inr none) = rw none.1 refl
    by_cases (inl some) = rw some.2 (length-set is n (change some.0))

-- a write
pub write_is : (inv : ℕ) (cell : Cell) (value : ℕ) (s : State) → write_cell inv cell value s ≡ Done tt (record s { written = set s.written cell value; steps = s.steps ++ record { inv = inv; write = true; cell = cell; value = value } ∷ [] })
unfolding write_cell
write_is inv cell value s = refl

-- a read
pub read_is : (store : Store) (inv : ℕ) (cell : Cell) (s : State) → read_cell store inv cell s ≡ Done (value_now store s cell) (record s { reads = with_read s.written s.reads cell (value_now store s cell); steps = s.steps ++ record { inv = inv; write = false; cell = cell; value = value_now store s cell } ∷ [] })
unfolding read_cell
read_is store inv cell s = refl

-- a read, from the value and what the run keeps of it
pub read_by_parts : (store : Store) (inv : ℕ) (cell : Cell) (value : ℕ) (s kept last : State) → value ≡ value_now store s cell → kept ≡ record s { reads = with_read s.written s.reads cell value } →
    last ≡ record kept { steps = kept.steps ++ record { inv = inv; write = false; cell = cell; value = value } ∷ [] } → read_cell store inv cell s ≡ Done value last
read_by_parts store inv cell value s kept last is keeps ends = rw (ends, keeps, is) (read_is store inv cell s)

-- a write, from the cells and the step
pub write_by_parts : (inv : ℕ) (cell : Cell) (value : ℕ) (s kept last : State) → kept ≡ record s { written = set s.written cell value } →
    last ≡ record kept { steps = kept.steps ++ record { inv = inv; write = true; cell = cell; value = value } ∷ [] } → write_cell inv cell value s ≡ Done tt last
write_by_parts inv cell value s kept last keeps ends = rw (ends, keeps) (write_is inv cell value s)
