-- Which words are a command, and what they name.
use Rattle.std.specs.Prelude.{ℕ, ◌==◌, if◌then◌else◌, List, [], ◌∷◌, Option, Some, None, codes}
use Rattle.std.specs.Option.{option_map}
use Rattle.std.specs.Str.{bytes_eq}

-- the commands, with what their words name
pub data Command : Type 0 where
  Run : List ℕ → Command
  Show : List ℕ → Command

-- the name of a file: a word that isn't empty and doesn't begin with `-`
abbrev pub file_name : List ℕ → Option (List ℕ)
file_name [] = None
file_name (first ∷ more) = if first == 45 then None else Some (first ∷ more)

-- the file that stands behind the word of a command, where there are no other words
abbrev pub file_behind : List ℕ → List (List ℕ) → Option (List ℕ)
file_behind word [] = None
file_behind word (command ∷ []) = None
file_behind word (command ∷ file ∷ []) = if bytes_eq command word then file_name file else None
file_behind word (command ∷ file ∷ more ∷ others) = None

-- `show FILE`, for which no thread and no stream is needed
abbrev pub tool_of : List (List ℕ) → Option Command
tool_of words = option_map Command.Show (file_behind (codes "show") words)

-- the file to run, where there is one, else another command
abbrev pub run_or : Option (List ℕ) → Option Command → Option Command
run_or (Some file) other = Some (Command.Run file)
run_or None other = other

-- the command that words are; all others are refused
abbrev pub command_of : List (List ℕ) → Option Command
command_of words = run_or (file_behind (codes "run") words) (tool_of words)
