-- What a list of rows says past its end, and after a row is put in.
use Rattle.std.proofs.Common.{◌≡◌, ◌≢◌, ℕ, ◌%◌, ◌/◌, ◌<◌, ◌≤◌, ◌==◌, false, List, [], length, slice_set, ap, ◌∙◌, zero-le, get_or-set_other, get_or-set_same}
use Rattle.std.specs.Int.{bit_at}
use Rattle.std.proofs.lemmas.List.{get_or_past}
use Rattle.std.proofs.lemmas.Nat.Bits.{bit_at-zero}
use Rattle.ecf_graph.specs.Rows.{is_member, is_in_row}

pub member_past : (a : List ℕ) (i : ℕ) → length a ≤ i / 64 → is_member a i ≡ false
unfolding is_member
member_past a i h = ap (λ w. bit_at w (i % 64) == 1) (get_or_past a (i / 64) 0 h) ∙ ap (λ b. b == 1) (bit_at-zero (i % 64))

pub member_none : (i : ℕ) → is_member [] i ≡ false
member_none i = member_past [] i zero-le

pub in_row_past : (rows : List (List ℕ)) (k i : ℕ) → length rows ≤ k → is_in_row rows k i ≡ false
unfolding is_in_row
in_row_past rows k i h = ap (λ r. is_member r i) (get_or_past rows k [] h) ∙ member_none i

-- a row that is put in
pub in_row_same : (rows : List (List ℕ)) (k m i : ℕ) (r : List ℕ) → k < length rows → m ≡ k → is_in_row (slice_set rows k r) m i ≡ is_member r i
unfolding is_in_row
in_row_same rows k m i r h e = ap (λ x. is_in_row (slice_set rows k r) x i) e ∙ ap (λ x. is_member x i) (get_or-set_same rows k r [] h)

pub in_row_other : (rows : List (List ℕ)) (k m i : ℕ) (r : List ℕ) → m ≢ k → is_in_row (slice_set rows k r) m i ≡ is_in_row rows m i
unfolding is_in_row
in_row_other rows k m i r n = ap (λ x. is_member x i) (get_or-set_other rows k m r [] n)
