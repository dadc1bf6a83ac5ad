-- Counts of what went wrong: they never fall, and stand still at the end of their type.
use Rattle.std.specs.Prelude.{ℕ, ◌+◌, ◌-◌, ◌^◌, ◌≤◌, min}

-- a count, one higher, or the greatest count
abbrev pub counted_up : ℕ → ℕ
counted_up count = min (count + 1) (2 ^ 64 - 1)

-- the count rose: it is higher than before, or it stands at the end of its type
abbrev pub Rose : ℕ → ℕ → Type 0
Rose before after = counted_up before ≤ after
