-- Words byte by byte, and a line cut at its first space.
use Rattle.std.proofs.Common.{◌≡◌, ◌≤◌, ◌<◌, ℕ, ◌+◌, Bool, true, false, cond, ◌&&◌, List, [], ◌∷◌, Option, Some, None, length, get_or, take, drop, refl, sym, ap, subst, ◌∙◌, arith}
use Rattle.std.specs.Prelude.{nat_le, nat_lt, option_and_then, position, if◌then◌else◌}
use Rattle.std.specs.Char.{is_ascii_digit}
use Rattle.std.specs.List.{list_all, onto_first, join_with_byte, before_first, after_first, position_or_len}
use Rattle.std.proofs.lemmas.List.Splits.{join_with_byte-slice_split, length-slice_split, slice_split_first, slice_split_none}
use Rattle.std.proofs.lemmas.List.Sums.{fails_before_first}
use Rattle.ecf_decimal.specs.Decimal.{is_numeral, number_value}
use Rattle.ecf_lines.specs.Line.{words}
use Rattle.ecf_events.specs.Line.{actor_numbered, event_alone, event_named, event_of_words, event_of}
use Rattle.ecf_schedule.specs.Words.{is_space}

pub four_bytes : (w : List ℕ) (a b d e : ℕ) → 4 ≤ length w → length w < 5 → get_or w 0 0 ≡ a → get_or w 1 0 ≡ b → get_or w 2 0 ≡ d → get_or w 3 0 ≡ e → w ≡ a ∷ b ∷ d ∷ e ∷ []
four_bytes [] a b d e h k p q r s = let no : ⊥ = omega (arith, h) in absurd no
four_bytes (x ∷ []) a b d e h k p q r s = let no : ⊥ = omega (arith, h) in absurd no
four_bytes (x ∷ y ∷ []) a b d e h k p q r s = let no : ⊥ = omega (arith, h) in absurd no
four_bytes (x ∷ y ∷ z ∷ []) a b d e h k p q r s = let no : ⊥ = omega (arith, h) in absurd no
four_bytes (x ∷ y ∷ z ∷ v ∷ []) a b d e h k p q r s = cc
four_bytes (x ∷ y ∷ z ∷ v ∷ o ∷ more) a b d e h k p q r s = let no : ⊥ = omega (arith, k) in absurd no

pub five_bytes : (w : List ℕ) (a b d e f : ℕ) → 5 ≤ length w → length w < 6 → get_or w 0 0 ≡ a → get_or w 1 0 ≡ b → get_or w 2 0 ≡ d → get_or w 3 0 ≡ e → get_or w 4 0 ≡ f → w ≡ a ∷ b ∷ d ∷ e ∷ f ∷ []
five_bytes [] a b d e f h k p q r s t = let no : ⊥ = omega (arith, h) in absurd no
five_bytes (x ∷ w) a b d e f h k p q r s t = let rest = four_bytes w b d e f (omega (arith, h)) (omega (arith, k)) q r s t in cc

pub six_bytes : (w : List ℕ) (a b d e f g : ℕ) → 6 ≤ length w → length w < 7 → get_or w 0 0 ≡ a → get_or w 1 0 ≡ b → get_or w 2 0 ≡ d → get_or w 3 0 ≡ e → get_or w 4 0 ≡ f → get_or w 5 0 ≡ g → w ≡ a ∷ b ∷ d ∷ e ∷ f ∷ g ∷ []
six_bytes [] a b d e f g h k p q r s t u = let no : ⊥ = omega (arith, h) in absurd no
six_bytes (x ∷ w) a b d e f g h k p q r s t u = let rest = five_bytes w b d e f g (omega (arith, h)) (omega (arith, k)) q r s t u in cc

pub seven_bytes : (w : List ℕ) (a b d e f g i : ℕ) → 7 ≤ length w → length w < 8 → get_or w 0 0 ≡ a → get_or w 1 0 ≡ b → get_or w 2 0 ≡ d → get_or w 3 0 ≡ e → get_or w 4 0 ≡ f → get_or w 5 0 ≡ g → get_or w 6 0 ≡ i → w ≡ a ∷ b ∷ d ∷ e ∷ f ∷ g ∷ i ∷ []
seven_bytes [] a b d e f g i h k p q r s t u l = let no : ⊥ = omega (arith, h) in absurd no
seven_bytes (x ∷ w) a b d e f g i h k p q r s t u l = let rest = six_bytes w b d e f g i (omega (arith, h)) (omega (arith, k)) q r s t u l in cc

-- ---- a line cut at its first space

both : (a b : Bool) → (a && b) ≡ true → (a ≡ true) × (b ≡ true)
both true b e = (refl, e)
both false b e = let no : ⊥ = cc in absurd no

no_space : (byte : ℕ) → is_ascii_digit byte ≡ true → is_space byte ≡ false
no_space byte e = grind arith

all_digits : (digits : List ℕ) → list_all is_ascii_digit digits ≡ true → words digits ≡ digits ∷ []
all_digits [] e = refl
all_digits (d ∷ ds) e =
    let t = both (is_ascii_digit d) (list_all is_ascii_digit ds) e in
    ap (λ b. cond b ([] ∷ words ds) (onto_first d (words ds))) (no_space d t.0) ∙ ap (onto_first d) (all_digits ds t.1)

one_word : (digits : List ℕ) → is_numeral digits ≡ true → words digits ≡ digits ∷ []
one_word [] e = refl
one_word (d ∷ ds) e = all_digits (d ∷ ds) e

-- what numbers an actor is a numeral
numeral : (digits : List ℕ) (n : ℕ) → actor_numbered digits ≡ Some n → is_numeral digits ≡ true
numeral digits n e = tested (nat_le (length digits) 2) (is_numeral digits) (number_value digits) n e where
  tested : (few numeral : Bool) (value n : ℕ) → (if few then (if numeral && nat_le 0 value && nat_le value 23 then Some value else None) else None) ≡ Some n → numeral ≡ true
  tested few true value n e = refl
  tested true false value n e = let no : ⊥ = cc in absurd no
  tested false false value n e = let no : ⊥ = cc in absurd no

-- words behind a first one, of which there is one or there are more
behind : (word after : List ℕ) (ws : List (List ℕ)) (o : Option ℕ) → words after ≡ ws → 0 < length ws → actor_numbered after ≡ o → event_of_words (word ∷ ws) ≡ option_and_then (event_named word) o
behind word after [] o e some is = let no : ⊥ = omega (arith, some) in absurd no
behind word after (a ∷ []) o e some is =
    let same : a ≡ after = sym (ap (join_with_byte 32) e) ∙ join_with_byte-slice_split 32 after in
    ap (λ w. option_and_then (event_named word) (actor_numbered w)) same ∙ ap (option_and_then (event_named word)) is
behind word after (a ∷ b ∷ more) None e some is = refl
behind word after (a ∷ b ∷ more) (Some n) e some is =
    let one = one_word after (numeral after n is) in
    let no : ⊥ = cc in absurd no

-- a line with a space in it, and one without
abbrev IsCutAt : List ℕ → Option ℕ → Type 0
IsCutAt line None = event_of line ≡ event_alone line
IsCutAt line (Some place) = event_of line ≡ option_and_then (event_named (take place line)) (actor_numbered (drop (place + 1) line))

pub cut_at : (line : List ℕ) (o : Option ℕ) → position is_space line ≡ o → IsCutAt line o
cut_at line o e = by (nat_lt (position_or_len is_space line) (length line)) refl o e where
  by : (b : Bool) → nat_lt (position_or_len is_space line) (length line) ≡ b → (o : Option ℕ) → (if b then Some (position_or_len is_space line) else None) ≡ o → IsCutAt line o
  by true inside None e = let no : ⊥ = cc in absurd no
  by false inside (Some place) e = let no : ⊥ = cc in absurd no
  by true inside (Some place) e =
      let within : position_or_len is_space line < length line = grind arith in
      let same : position_or_len is_space line ≡ place = cc in
      let word = before_first is_space line in
      let after = after_first is_space line in
      let count = length-slice_split is_space after in
      let cut : event_of line ≡ option_and_then (event_named word) (actor_numbered after) =
      ap event_of_words (slice_split_first is_space line 0 within) ∙ behind word after (words after) (actor_numbered after) refl (omega (arith, count)) refl in
      subst (λ p. event_of line ≡ option_and_then (event_named (take p line)) (actor_numbered (drop (p + 1) line))) same cut
  by false inside None e =
      let past : length line ≤ position_or_len is_space line = grind arith in
      ap event_of_words (slice_split_none is_space line (λ k d h. fails_before_first is_space line k d (omega (arith, past, h))))
