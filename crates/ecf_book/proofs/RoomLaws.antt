-- How many entries a history has at most, and how long a journal is.
use Rattle.std.proofs.Common.{◌≡◌, ℕ, suc, zero, ◌+◌, ◌*◌, ◌<◌, ◌≤◌, Bool, true, false, cond, not, ◌&&◌, ◌==◌, List, [], ◌∷◌, length, inl, inr, refl, sym, subst, arith}
use Rattle.std.specs.Prelude.{filter}
use Rattle.std.proofs.lemmas.Bool.{eq-eqb, cases_eq}
use Rattle.ecf_core.specs.declared.book.LogEntry.{LogEntry}
use Rattle.ecf_core.specs.Counts.{is_off, entries_of, most_entries}
use Rattle.ecf_core.specs.Laws.{ThreeStales, FewEntries}
use Rattle.ecf_book.specs.Held.{Held, IsOfRow, Holds}
use Rattle.ecf_book.specs.Kept.{HasHistory}
use Rattle.ecf_book.specs.Recorded.{Recorded, opening_of}
use Rattle.ecf_book.proofs.FindLaws.{false_not_true}
use Rattle.ecf_verdicts.specs.ListLemmas.{Each}

-- the entries of other rows than this one
abbrev others : ℕ → List LogEntry → List LogEntry
others r es = filter (λ (e : LogEntry). not (e.row == r)) es

-- an entry is of this row, or among the others
parted : (n r : ℕ) (es : List LogEntry) → Each (IsOfRow n) es → length es ≡ entries_of r es + length (others r es)
parted n r [] h = refl
parted n r (e ∷ es) h = go (e.row == r) (is_off e.what) h.0.no_off (parted n r es h.1)
  where
    go : (a b : Bool) → b ≡ false → length es ≡ entries_of r es + length (others r es) →
        suc (length es) ≡ length (cond (a && not b) (e ∷ filter (λ (f : LogEntry). (f.row == r) && not (is_off f.what)) es) (filter (λ (f : LogEntry). (f.row == r) && not (is_off f.what)) es)) + length (cond (not a) (e ∷ others r es) (others r es))
    go true true f deep = false_not_true f refl
    go true false f deep = omega (arith, deep)
    go false b f deep = omega (arith, deep)

-- the others have no more entries of any row
fewer : (r q : ℕ) (es : List LogEntry) → entries_of q (others r es) ≤ entries_of q es
fewer r q [] = omega arith
fewer r q (e ∷ es) = go (not (e.row == r)) ((e.row == q) && not (is_off e.what)) refl (fewer r q es)
  where
    go : (a b : Bool) → ((e.row == q) && not (is_off e.what)) ≡ b → entries_of q (others r es) ≤ entries_of q es → entries_of q (cond a (e ∷ others r es) (others r es)) ≤ length (cond b (e ∷ filter (λ (f : LogEntry). (f.row == q) && not (is_off f.what)) es) (filter (λ (f : LogEntry). (f.row == q) && not (is_off f.what)) es))
    go true true f deep = subst (λ (c : Bool). length (cond c (e ∷ filter (λ (f : LogEntry). (f.row == q) && not (is_off f.what)) (others r es)) (filter (λ (f : LogEntry). (f.row == q) && not (is_off f.what)) (others r es))) ≤ suc (entries_of q es)) (sym f) (omega (arith, deep))
    go true false f deep = subst (λ (c : Bool). length (cond c (e ∷ filter (λ (f : LogEntry). (f.row == q) && not (is_off f.what)) (others r es)) (filter (λ (f : LogEntry). (f.row == q) && not (is_off f.what)) (others r es))) ≤ entries_of q es) (sym f) deep
    go false true f deep = omega (arith, deep)
    go false false f deep = deep

-- the others of the last row are of the rows before it
of_fewer : (n : ℕ) (es : List LogEntry) → Each (IsOfRow (suc n)) es → Each (IsOfRow n) (others n es)
of_fewer n [] h = tt
of_fewer n (e ∷ es) h = go (e.row == n) refl (of_fewer n es h.1)
  where
    go : (a : Bool) → (e.row == n) ≡ a → Each (IsOfRow n) (others n es) → Each (IsOfRow n) (cond (not a) (e ∷ others n es) (others n es))
    go true f deep = deep
    go false f deep = (record { known = elim (cases_eq e.row n) [ inl s ↦ false_not_true f (eq-eqb _ _ s) | inr d ↦ (let k : e.row < suc n = h.0.known in omega (arith, k, d)) ]; no_off = h.0.no_off }, deep)

-- where each row has few entries, all rows have few
pub few_in_all : (m n : ℕ) (es : List LogEntry) → Each (IsOfRow n) es → ((r : ℕ) → entries_of r es ≤ m) → length es ≤ m * n
few_in_all m zero [] h few = omega arith
few_in_all m zero (e ∷ es) h few = absurd (let k : e.row < 0 = h.0.known in omega (arith, k))
few_in_all m (suc n) es h few =
    let deep = few_in_all m n (others n es) (of_fewer n es h) (λ r. (let a = few r in let b = fewer n r es in omega (arith, a, b))) in
    omega (arith, deep, few n, parted (suc n) n es h)

-- what is known of a book's history
pub history_book : ThreeStales → FewEntries → (b : Recorded) (h : Held) → Holds b h → HasHistory b
history_book stales few b h holds =
    let o = opening_of b.setup in
    record {
      setup = holds.setup;
      legal = holds.legal;
      stales = stales o b.entries holds.legal;
      few = few o b.entries holds.legal;
      in_all = few_in_all most_entries (length b.setup.txs) b.entries holds.of_rows (few o b.entries holds.legal);
    }
