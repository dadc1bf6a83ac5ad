-- Levels of words: what is kept of them, and the least member by one look at each.
use Rattle.std.proofs.Common.{◌≡◌, ℕ, ◌/◌, ◌<◌, ◌≤◌, true, false, List, [], length, sym, ap, ◌∙◌, arith, inl, inr, Option, Some, None, subst}
use Rattle.std.proofs.lemmas.Bool.{cases_eq, both_ways}
use Rattle.ecf_rows.specs.RowSet.{is_member, is_used, IsAbove, AreLevels, IsFirstOf, IsFirstIn, IsLeastOf, IsLeast}
use Rattle.ecf_rows.proofs.WordLaws.{member_past, member_none, used_none, unused}

pub no_levels : AreLevels [] [] []
no_levels = record {
  low = record { members = λ k. member_none k ∙ sym (used_none k); room = omega arith };
  high = record { members = λ k. member_none k ∙ sym (used_none k); room = omega arith };
  few = omega arith;
}

-- of two levels, the higher one's least leads to the lower one's
pub least_below : (a b : List ℕ) (k i : ℕ) → IsAbove a b → IsLeastOf b k → IsFirstOf a k i → IsLeastOf a i
least_below a b k i h up first = record {
  member = first.member;
  least = λ j l. elim (cases_eq (j / 64) k) [
    | inl e ↦ first.least j l e
    | inr n ↦ (let word : i / 64 ≡ k = first.word in let less : j / 64 < k = omega (arith, l, word, n) in unused a j (sym (h.members (j / 64)) ∙ up.least (j / 64) less))
  ];
}

-- the least of one word is the least where it is the first word
pub least_top : (c : List ℕ) (i : ℕ) → IsFirstOf c 0 i → IsLeastOf c i
least_top c i first = record {
  member = first.member;
  least = λ j l. first.least j l (let word : i / 64 ≡ 0 = first.word in omega (arith, l, word));
}

-- a level has no members where the higher one has none
pub none_below : (a b : List ℕ) → IsAbove a b → ((j : ℕ) → is_member b j ≡ false) → (j : ℕ) → is_member a j ≡ false
none_below a b h none j = unused a j (sym (h.members (j / 64)) ∙ none (j / 64))

pub none_top : (c : List ℕ) → length c ≤ 1 → is_used c 0 ≡ false → (j : ℕ) → is_member c j ≡ false
none_top c few none j = elim (cases_eq (j / 64) 0) [
  | inl e ↦ unused c j (ap (is_used c) e ∙ none)
  | inr n ↦ member_past c j (omega (arith, few, n))
]

-- a member of the higher level has a word with members
pub no_gap : (a b : List ℕ) (k : ℕ) → IsAbove a b → is_member b k ≡ true → is_used a k ≡ false → ⊥
no_gap a b k h member unused_word = both_ways _ (h.members k ∙ unused_word) member

-- nothing is found in the highest level: there are no members
pub nothing_found : (a b c top : List ℕ) (found : Option ℕ) → AreLevels a b c → top ≡ c → found ≡ None → is_used top 0 ≡ false → IsLeast a found
nothing_found a b c top found h e nothing unused_word =
    subst (IsLeast a) (sym nothing) (none_below a b h.low (none_below b c h.high (none_top c h.few (subst (λ l. is_used l 0 ≡ false) e unused_word))))

-- what is found in the lowest level, by way of the others
pub least_found : (a b c low middle top : List ℕ) (t k : ℕ) (found : Option ℕ) → AreLevels a b c → low ≡ a → middle ≡ b → top ≡ c → IsFirstOf top 0 t → IsFirstOf middle t k → IsFirstIn low k found → IsLeast a found
least_found a b c low middle top t k None h e f g p q unused_word =
    absurd (no_gap a b k h.low (subst (λ l. is_member l k ≡ true) f q.member) (subst (λ l. is_used l k ≡ false) e unused_word))
least_found a b c low middle top t k (Some i) h e f g p q r =
    least_below a b k i h.low (least_below b c t k h.high (least_top c t (subst (λ l. IsFirstOf l 0 t) g p)) (subst (λ l. IsFirstOf l t k) f q)) (subst (λ l. IsFirstOf l k i) e r)
