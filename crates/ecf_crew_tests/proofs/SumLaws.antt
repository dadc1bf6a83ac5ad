-- A history with one addition more.
use Rattle.std.proofs.Common.{◌≡◌, ℕ, ◌+◌, ◌≤◌, Bool, true, false, ◌&&◌, ◌==◌, leb, List, [], ◌∷◌, ◌++◌, refl, arith}
use Rattle.std.proofs.lemmas.Bool.Decides.{nat_tests}
use Rattle.ecf_crew_tests.specs.declared.sum.Entry.{Entry}
use Rattle.ecf_crew_tests.specs.Sums.{is_legal, sum_from}

-- the sum after one addition more is what that one was told
pub sum_more : (s : ℕ) (es : List Entry) (e : Entry) → sum_from s (es ++ e ∷ []) ≡ e.reply
sum_more s [] e = refl
sum_more s (x ∷ es) e = sum_more x.reply es e

-- a test of three parts
parts : (a b c : Bool) → (a && b && c) ≡ true → (a ≡ true) × (b ≡ true) × (c ≡ true)
parts true true c h = (refl, refl, h)
parts true false c h = absurd cc
parts false b c h = absurd cc

-- three parts of a test
whole : (a b c : Bool) → a ≡ true → b ≡ true → c ≡ true → (a && b && c) ≡ true
whole a b c p q r = rw (p, q, r)

-- a legal history stays legal with an addition that was told the new sum
pub legal_more : (limit s : ℕ) (es : List Entry) (e : Entry) → is_legal limit s es ≡ true → e.reply ≡ sum_from s es + e.amount → e.reply ≤ limit → is_legal limit s (es ++ e ∷ []) ≡ true
legal_more limit s [] e h r le = grind (arith, nat_tests)
legal_more limit s (x ∷ es) e h r le = let h' = parts (x.reply == s + x.amount) (leb x.reply limit) (is_legal limit x.reply es) h in
    whole (x.reply == s + x.amount) (leb x.reply limit) (is_legal limit x.reply (es ++ e ∷ [])) h'.0 h'.1 (legal_more limit x.reply es e h'.2 r le)
