-- A share that is halved again and again, and a new member.
use Rattle.std.proofs.Common.{◌≡◌, ℕ, suc, zero, ◌+◌, ◌-◌, ◌*◌, ◌/◌, ◌<◌, ◌≤◌, ◌^◌, sym, subst, arith}
use Rattle.std.proofs.Math.Nat.{pow-succ'}

positive : (n : ℕ) → 1 ≤ 2 ^ n
positive zero = omega arith
positive (suc n) = let p = positive n in let e : 2 ^ suc n ≡ 2 * 2 ^ n = pow-succ' 2 n in omega arith

half : (x s : ℕ) → 1 ≤ x → 2 * x ≤ s → (2 ≤ s) × (x ≤ s - s / 2)
half x s some twice = (omega arith, omega arith)

-- what is left for the first, where there is enough for so many halvings
pub halves : (t s : ℕ) → t < 24 → 2 ^ (32 - t) ≤ s → (2 ≤ s) × (2 ^ (32 - (t + 1)) ≤ s - s / 2)
halves t s below enough =
    let n : ℕ = 31 - t in
    let e : 32 - t ≡ suc n = omega arith in
    let f : 32 - (t + 1) ≡ n = omega arith in
    let twice : 2 * 2 ^ n ≤ s = subst (λ (k : ℕ). k ≤ s) (pow-succ' 2 n) (subst (λ (k : ℕ). 2 ^ k ≤ s) e enough) in
    let h = half (2 ^ n) s (positive n) twice in
    (h.0, subst (λ (k : ℕ). 2 ^ k ≤ s - s / 2) (sym f) h.1)
