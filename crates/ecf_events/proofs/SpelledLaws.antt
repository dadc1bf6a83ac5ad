-- A line says exactly the event that it spells.
use Rattle.std.proofs.Common.{◌≡◌, ℕ, ◌-◌, ◌<◌, ◌≤◌, Bool, true, false, cond, ◌&&◌, if◌then◌else◌, List, [], ◌∷◌, ◌++◌, Option, Some, None, length, refl, sym, ap, subst, ◌∙◌, arith, append_assoc}
use Rattle.std.specs.Prelude.{◌==◌, nat_le, codes, option_and_then}
use Rattle.std.specs.Char.{is_ascii_digit}
use Rattle.std.specs.List.{list_all, onto_first, join_with_byte}
use Rattle.std.specs.Str.{bytes_eq}
use Rattle.std.specs.Cmp.Lexicographic.{same_text}
use Rattle.std.proofs.lemmas.List.Splits.{join_with_byte-slice_split}
use Rattle.ecf_core.specs.declared.event.Event.{Event}
use Rattle.ecf_core.specs.declared.event.Event.TheVariants as event
use Rattle.ecf_core.specs.Core.{actor_of}
use Rattle.ecf_decimal.specs.Decimal.{is_numeral, number_value}
use Rattle.ecf_lang.specs.declared.limits.TheConstants.{MAX_ACTORS}
use Rattle.ecf_lines.specs.Line.{words}
use Rattle.ecf_events.specs.Line.{actor_numbered, event_named, event_alone, event_of_words, event_of}
use Rattle.ecf_events.specs.Spelled.{word_of, NumbersActor, SpellsBy, SpellsEvent}
use Rattle.ecf_events.specs.Laws.{SaidIsSpelled, SpelledIsSaid}

-- ---- what is said is spelled

-- the word and the actor of an event
abbrev IsOf : List ℕ → ℕ → Event → Type 0
IsOf word actor e = (word ≡ word_of e) × (actor_of e ≡ Some actor)

this_or : (word : List ℕ) (actor : ℕ) (b : Bool) (this e : Event) (rest : Option Event) → (true ≡ b → IsOf word actor this) → (rest ≡ Some e → IsOf word actor e) → (if b then Some this else rest) ≡ Some e → IsOf word actor e
this_or word actor true this e rest h k is = let same : this ≡ e = cc in subst (IsOf word actor) same (h refl)
this_or word actor false this e rest h k is = k is

none_said : (word : List ℕ) (actor : ℕ) (e : Event) → (let none : Option Event = None in none) ≡ Some e → IsOf word actor e
none_said word actor e is = let no : ⊥ = cc in absurd no

named : (word : List ℕ) (actor : ℕ) (e : Event) → event_named word actor ≡ Some e → IsOf word actor e
named word actor e =
    this_or word actor (bytes_eq word (codes "claim")) (event.Claim actor) e _ (λ is. (same_text word (codes "claim") is, refl))
    (this_or word actor (bytes_eq word (codes "run")) (event.Run actor) e _ (λ is. (same_text word (codes "run") is, refl))
    (this_or word actor (bytes_eq word (codes "hand")) (event.Hand actor) e _ (λ is. (same_text word (codes "hand") is, refl))
    (this_or word actor (bytes_eq word (codes "take")) (event.Take actor) e _ (λ is. (same_text word (codes "take") is, refl))
    (this_or word actor (bytes_eq word (codes "judge")) (event.Judge actor) e _ (λ is. (same_text word (codes "judge") is, refl))
    (this_or word actor (bytes_eq word (codes "commit")) (event.Commit actor) e _ (λ is. (same_text word (codes "commit") is, refl))
    (this_or word actor (bytes_eq word (codes "here")) (event.Here actor) e _ (λ is. (same_text word (codes "here") is, refl))
    (this_or word actor (bytes_eq word (codes "release")) (event.Release actor) e _ (λ is. (same_text word (codes "release") is, refl))
    (this_or word actor (bytes_eq word (codes "lose")) (event.Lose actor) e None (λ is. (same_text word (codes "lose") is, refl))
    (none_said word actor e)))))))))

-- the actor of digits
numbered : (digits : List ℕ) (actor : ℕ) → actor_numbered digits ≡ Some actor → NumbersActor digits actor
numbered digits actor e = let t = tested (length digits) (is_numeral digits) (number_value digits) actor e in record { numeral = t.0; few = t.1; value = t.2; known = t.3 } where
  tested : (count : ℕ) (numeral : Bool) (value n : ℕ) → (if nat_le count 2 then (if numeral && nat_le 0 value && nat_le value (MAX_ACTORS - 1) then Some value else None) else None) ≡ Some n →
      (numeral ≡ true) × (count ≤ 2) × (value ≡ n) × (n < MAX_ACTORS)
  tested count true value n e = (refl, grind arith, grind arith, grind arith)
  tested count false value n e = let no : ⊥ = grind arith in absurd no

alone : (line word : List ℕ) (e : Event) → line ≡ word → event_alone word ≡ Some e → SpellsEvent line e
alone line word e same = by (bytes_eq word (codes "reclaim")) (same_text word (codes "reclaim")) where
  by : (b : Bool) → (true ≡ b → word ≡ codes "reclaim") → (if b then Some event.Reclaim else None) ≡ Some e → SpellsEvent line e
  by true h is = let this : event.Reclaim ≡ e = cc in subst (SpellsEvent line) this (same ∙ h refl)
  by false h is = let no : ⊥ = cc in absurd no

of_actor : (line word digits : List ℕ) (o : Option ℕ) (e : Event) → line ≡ word ++ 32 ∷ digits → actor_numbered digits ≡ o → option_and_then (event_named word) o ≡ Some e → SpellsEvent line e
of_actor line word digits None e same is h = let no : ⊥ = cc in absurd no
of_actor line word digits (Some actor) e same is h =
    let t = named word actor e h in
    subst (SpellsBy line (word_of e)) (sym t.1) (digits, numbered digits actor is, same ∙ ap (λ w. w ++ 32 ∷ digits) t.0 ∙ sym (append_assoc (word_of e) (codes " ") digits))

by_words : (line : List ℕ) (ws : List (List ℕ)) (e : Event) → join_with_byte 32 ws ≡ line → event_of_words ws ≡ Some e → SpellsEvent line e
by_words line [] e joined h = let no : ⊥ = cc in absurd no
by_words line (word ∷ []) e joined h = alone line word e (sym joined) h
by_words line (word ∷ digits ∷ []) e joined h = of_actor line word digits (actor_numbered digits) e (sym joined) refl h
by_words line (a ∷ b ∷ c ∷ more) e joined h = let no : ⊥ = cc in absurd no

pub said_is_spelled : SaidIsSpelled
said_is_spelled line e h = by_words line (words line) e (join_with_byte-slice_split 32 line) h

-- ---- what is spelled is said

both : (a b : Bool) → (a && b) ≡ true → (a ≡ true) × (b ≡ true)
both true b e = (refl, e)
both false b e = let no : ⊥ = cc in absurd no

no_space : (byte : ℕ) → is_ascii_digit byte ≡ true → (byte == 32) ≡ false
no_space byte e = grind arith

all_digits : (digits : List ℕ) → list_all is_ascii_digit digits ≡ true → words digits ≡ digits ∷ []
all_digits [] e = refl
all_digits (d ∷ ds) e =
    let t = both (is_ascii_digit d) (list_all is_ascii_digit ds) e in
    ap (λ b. cond b ([] ∷ words ds) (onto_first d (words ds))) (no_space d t.0) ∙ ap (onto_first d) (all_digits ds t.1)

one_word : (digits : List ℕ) → is_numeral digits ≡ true → words digits ≡ digits ∷ []
one_word [] e = refl
one_word (d ∷ ds) e = all_digits (d ∷ ds) e

actor_read : (digits : List ℕ) (actor : ℕ) → NumbersActor digits actor → actor_numbered digits ≡ Some actor
actor_read digits actor n = tested (length digits) (is_numeral digits) (number_value digits) actor n.few n.numeral n.value n.known where
  tested : (count : ℕ) (numeral : Bool) (value n : ℕ) → count ≤ 2 → numeral ≡ true → value ≡ n → n < MAX_ACTORS →
      (if nat_le count 2 then (if numeral && nat_le 0 value && nat_le value (MAX_ACTORS - 1) then Some value else None) else None) ≡ Some n
  tested count numeral value n few is same known = grind arith

-- the event of a word and digits, by what the word names
read : (line word digits : List ℕ) (actor : ℕ) (e : Event) → ((rest : List ℕ) → words (word ++ 32 ∷ rest) ≡ word ∷ words rest) → event_named word actor ≡ Some e → NumbersActor digits actor → line ≡ word ++ 32 ∷ digits → event_of line ≡ Some e
read line word digits actor e apart is n same =
    ap event_of same
    ∙ ap event_of_words (apart digits ∙ ap (λ ws. word ∷ ws) (one_word digits n.numeral))
    ∙ ap (option_and_then (event_named word)) (actor_read digits actor n)
    ∙ is

pub spelled_is_said : SpelledIsSaid
spelled_is_said line (event.Claim actor) s = read line (codes "claim") s.0 actor (event.Claim actor) (λ rest. refl) refl s.1 s.2
spelled_is_said line (event.Run actor) s = read line (codes "run") s.0 actor (event.Run actor) (λ rest. refl) refl s.1 s.2
spelled_is_said line (event.Hand actor) s = read line (codes "hand") s.0 actor (event.Hand actor) (λ rest. refl) refl s.1 s.2
spelled_is_said line (event.Take actor) s = read line (codes "take") s.0 actor (event.Take actor) (λ rest. refl) refl s.1 s.2
spelled_is_said line (event.Judge actor) s = read line (codes "judge") s.0 actor (event.Judge actor) (λ rest. refl) refl s.1 s.2
spelled_is_said line (event.Commit actor) s = read line (codes "commit") s.0 actor (event.Commit actor) (λ rest. refl) refl s.1 s.2
spelled_is_said line (event.Here actor) s = read line (codes "here") s.0 actor (event.Here actor) (λ rest. refl) refl s.1 s.2
spelled_is_said line (event.Release actor) s = read line (codes "release") s.0 actor (event.Release actor) (λ rest. refl) refl s.1 s.2
spelled_is_said line (event.Lose actor) s = read line (codes "lose") s.0 actor (event.Lose actor) (λ rest. refl) refl s.1 s.2
spelled_is_said line event.Reclaim s = ap event_of s
