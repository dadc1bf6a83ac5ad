-- What a shelf holds under a name, what a fetch answers, and what a shelf in memory is.
use Rattle.std.specs.Prelude.{ℕ, ◌≡◌, ◌<◌, List, [], ◌∷◌, length, map, Option, None, Some, IfSome, IsSomeAnd, Result, Ok, Err, IsOk, nat_lt, if◌then◌else◌, Vec, String, string_bytes}
use Rattle.std.specs.Str.{bytes_eq}
use Rattle.std.specs.declared.alloc.Global.{Global}
use Rattle.ecf_edge.specs.Count.{counted_up}
use Rattle.ecf_edge.specs.Plan.{Plan, next_fails, after_call}
use Rattle.ecf_edge.specs.declared.shelf.Fetch.{Fetch}
use Rattle.ecf_edge.specs.declared.shelf.Fetch.TheVariants.{Missing, TooLong, Failed, NoMemory}
use Rattle.ecf_edge.specs.declared.source.Incomplete.{Incomplete}
use Rattle.ecf_edge.specs.declared.source.Incomplete.TheVariants as incomplete

-- named contents, each a name and its bytes: of two with one name the first counts
abbrev pub Files : Type 0
Files = List (List ℕ × List ℕ)

-- what is held under a name
abbrev pub content_of : Files → List ℕ → Option (List ℕ)
content_of [] name = None
content_of (file ∷ files) name = if bytes_eq file.0 name then Some file.1 else content_of files name

-- where the contents are told, these bytes are held under the name
abbrev pub HoldsUnder : Option Files → List ℕ → List ℕ → Type 0
HoldsUnder contents name bytes = IfSome contents (λ files. content_of files name ≡ Some bytes)

-- where they are told, nothing is held under the name
abbrev pub HoldsNoneUnder : Option Files → List ℕ → Type 0
HoldsNoneUnder contents name = IfSome contents (λ files. content_of files name ≡ None)

-- where they are told, more bytes than this are held under the name
abbrev pub HoldsMoreUnder : Option Files → List ℕ → ℕ → Type 0
HoldsMoreUnder contents name most = IfSome contents (λ files. IsSomeAnd (content_of files name) (λ bytes. most < length bytes))

-- how many fetches have failed, after one more with this answer
abbrev pub faults_after_fetch : {T : Type 0} → ℕ → Result T Fetch → ℕ
faults_after_fetch faults (Err Failed) = counted_up faults
faults_after_fetch faults answer = faults

-- how many found a content that was too long, after one more with this answer
abbrev pub long_answers_after_fetch : {T : Type 0} → ℕ → Result T Fetch → ℕ
long_answers_after_fetch long_answers (Err TooLong) = counted_up long_answers
long_answers_after_fetch long_answers answer = long_answers

-- how many found nothing under the name, after one more with this answer
abbrev pub absences_after_fetch : {T : Type 0} → ℕ → Result T Fetch → ℕ
absences_after_fetch absences (Err Missing) = counted_up absences
absences_after_fetch absences answer = absences

-- the answer of a fetch where its content wasn't read whole
abbrev pub fault_of_incomplete : Incomplete → Fetch
fault_of_incomplete incomplete.OverLimit = TooLong
fault_of_incomplete incomplete.Failed = Failed

-- names and bytes, as contents
abbrev pub files_of : List (String Global × Vec ℕ Global) → Files
files_of pairs = map (λ file. (string_bytes file.0, file.1.items)) pairs

-- the answer due where this is held under the name: a content of at most so many bytes, or why there is none
abbrev pub answer_due : Option (List ℕ) → ℕ → Result (List ℕ) Fetch
answer_due None most = Err Missing
answer_due (Some bytes) most = if nat_lt most (length bytes) then Err TooLong else Ok bytes

-- the answer is the one due, or a want of memory where a content is due
abbrev pub Answers : Result (Vec ℕ Global) Fetch → Result (List ℕ) Fetch → Type 0
Answers (Ok bytes) due = due ≡ Ok bytes.items
Answers (Err NoMemory) due = IsOk due
Answers (Err fault) due = due ≡ Err fault

-- a shelf in memory: its contents, and how often a content was too long or there was none
pub record CountingShelf : Type 0 where
  pub files : Files
  pub long_answers : ℕ
  pub absences : ℕ

-- before the first fetch
abbrev pub fresh_shelf : Files → CountingShelf
fresh_shelf files = record { files = files; long_answers = 0; absences = 0 }

-- the answer due of a fetch from it
abbrev pub due_from : CountingShelf → List ℕ → ℕ → Result (List ℕ) Fetch
due_from shelf name most = answer_due (content_of shelf.files name) most

-- the shelf after a fetch to which this answer was due
abbrev pub after_fetch : CountingShelf → Result (List ℕ) Fetch → CountingShelf
after_fetch shelf (Err TooLong) = record shelf { long_answers = counted_up shelf.long_answers }
after_fetch shelf (Err Missing) = record shelf { absences = counted_up shelf.absences }
after_fetch shelf due = shelf

-- a shelf in memory some of whose fetches fail
pub record FaultyShelf : Type 0 where
  pub shelf : CountingShelf
  pub plan : Plan

-- the answer due of a fetch from it
abbrev pub due_from_faulty : FaultyShelf → List ℕ → ℕ → Result (List ℕ) Fetch
due_from_faulty s name most = if next_fails s.plan then Err Failed else due_from s.shelf name most

-- the shelf after a fetch to which this answer was due
abbrev pub after_faulty_fetch : FaultyShelf → Result (List ℕ) Fetch → FaultyShelf
after_faulty_fetch s due = record { shelf = after_fetch s.shelf due; plan = after_call s.plan }
