-- What a line of a schedule says that isn't skipped: an event, or nothing that there is.
-- An event is spelled `WORD ACTOR`, or `reclaim` alone, with one space between the words and none at the ends.
use Rattle.std.specs.Prelude.{ℕ, ◌-◌, nat_le, if◌then◌else◌, List, [], ◌∷◌, length, codes, Option, Some, None, option_and_then}
use Rattle.std.specs.Str.{bytes_eq}
use Rattle.ecf_core.specs.declared.event.Event.{Event}
use Rattle.ecf_core.specs.declared.event.Event.TheVariants as event
use Rattle.ecf_lang.specs.declared.limits.TheConstants.{MAX_ACTORS}
use Rattle.ecf_lines.specs.Line.{words, number_within}

-- the actor that a word numbers, in one digit or two
abbrev pub actor_numbered : List ℕ → Option ℕ
actor_numbered word = if nat_le (length word) 2 then number_within 0 (MAX_ACTORS - 1) word else None

-- the event of an actor that a word names
abbrev pub event_named : List ℕ → ℕ → Option Event
event_named word actor =
    if bytes_eq word (codes "claim") then Some (event.Claim actor)
    else if bytes_eq word (codes "run") then Some (event.Run actor)
    else if bytes_eq word (codes "hand") then Some (event.Hand actor)
    else if bytes_eq word (codes "take") then Some (event.Take actor)
    else if bytes_eq word (codes "judge") then Some (event.Judge actor)
    else if bytes_eq word (codes "commit") then Some (event.Commit actor)
    else if bytes_eq word (codes "here") then Some (event.Here actor)
    else if bytes_eq word (codes "release") then Some (event.Release actor)
    else if bytes_eq word (codes "lose") then Some (event.Lose actor)
    else None

-- the event of nobody that a word names
abbrev pub event_alone : List ℕ → Option Event
event_alone word = if bytes_eq word (codes "reclaim") then Some event.Reclaim else None

-- the event that words spell
abbrev pub event_of_words : List (List ℕ) → Option Event
event_of_words (word ∷ []) = event_alone word
event_of_words (word ∷ actor ∷ []) = option_and_then (event_named word) (actor_numbered actor)
event_of_words other = None

-- the event that a line spells
abbrev pub event_of : List ℕ → Option Event
event_of line = event_of_words (words line)
