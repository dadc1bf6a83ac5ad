-- How a line spells an event, said of the event and not of the line's reading.
use Rattle.std.specs.Prelude.{◌≡◌, ◌<◌, ◌≤◌, ℕ, true, List, ◌++◌, length, codes, Option, Some, None}
use Rattle.ecf_core.specs.declared.event.Event.{Event}
use Rattle.ecf_core.specs.declared.event.Event.TheVariants as event
use Rattle.ecf_core.specs.Core.{actor_of}
use Rattle.ecf_decimal.specs.Decimal.{is_numeral, number_value}
use Rattle.ecf_lang.specs.declared.limits.TheConstants.{MAX_ACTORS}

-- the word of an event
abbrev pub word_of : Event → List ℕ
word_of (event.Claim actor) = codes "claim"
word_of (event.Run actor) = codes "run"
word_of (event.Hand actor) = codes "hand"
word_of (event.Take actor) = codes "take"
word_of (event.Judge actor) = codes "judge"
word_of (event.Commit actor) = codes "commit"
word_of (event.Here actor) = codes "here"
word_of (event.Release actor) = codes "release"
word_of (event.Lose actor) = codes "lose"
word_of event.Reclaim = codes "reclaim"

-- digits number an actor: one or two, of which the first may be a zero
pub record NumbersActor (digits : List ℕ) (actor : ℕ) : Type 0 where
  pub numeral : is_numeral digits ≡ true
  pub few : length digits ≤ 2
  pub value : number_value digits ≡ actor
  pub known : actor < MAX_ACTORS

-- a line is a word, and behind it a space and the number of an actor where there is one
abbrev pub SpellsBy : List ℕ → List ℕ → Option ℕ → Type 0
SpellsBy line word None = line ≡ word
SpellsBy line word (Some actor) = (digits : List ℕ) × NumbersActor digits actor × (line ≡ word ++ codes " " ++ digits)

-- the line spells the event
abbrev pub SpellsEvent : List ℕ → Event → Type 0
SpellsEvent line e = SpellsBy line (word_of e) (actor_of e)
