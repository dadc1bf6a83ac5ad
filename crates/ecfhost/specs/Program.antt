-- What the program makes of its arguments, and how it ends.
use Rattle.std.specs.Prelude.{◌≡◌, ◌≢◌, ℕ, [], drop, map, Result, Ok, Err, Vec, String, string_bytes}
use Rattle.std.specs.IoError.{error_kind}
use Rattle.std.specs.Vec.Iter.{into_iter_items}
use Rattle.std.specs.declared.alloc.AllocError.{AllocError}
use Rattle.std.specs.declared.alloc.Global.{Global}
use Rattle.std.specs.declared.io.Error.{Error}
use Rattle.std.specs.declared.io.ErrorKind.TheVariants.{OutOfMemory}
use Rattle.std.specs.declared.vec.IntoIter.{IntoIter}
use Rattle.ecf_host.specs.Served.{IsServed}
use Rattle.ecf_host.specs.Words.{command_of}
use Rattle.ecf_host.specs.World.{World}

-- what came of taking the arguments, and the words that are made of it
abbrev pub Arguments : Type 0
Arguments = Result (IntoIter (String Global) Global) Error

abbrev pub Words : Type 0
Words = Result (Vec (String Global) Global) AllocError

-- the words are all arguments behind the first, or none where an argument isn't text; or there was no memory for them
abbrev pub IsWordsOf : Arguments → Words → Type 0
IsWordsOf (Ok args) (Ok words) = words.items ≡ drop 1 (into_iter_items args)
IsWordsOf (Ok args) (Err no_memory) = Unit
IsWordsOf (Err error) (Ok words) = (error_kind error ≢ OutOfMemory) × (words.items ≡ [])
IsWordsOf (Err error) (Err no_memory) = error_kind error ≡ OutOfMemory

-- how the program ends with these words: the host served them; or the status is 6, and nothing was done
abbrev pub IsEndWith : Words → World → World → ℕ → Type 0
IsEndWith (Ok words) before after status = IsServed (command_of (map string_bytes words.items)) before after status
IsEndWith (Err no_memory) before after status = (status ≡ 6) × (after ≡ before)

-- how it ends, where this came of taking its arguments
abbrev pub IsEndOf : Arguments → World → World → ℕ → Type 0
IsEndOf arguments before after status = (words : Words) × IsWordsOf arguments words × IsEndWith words before after status
