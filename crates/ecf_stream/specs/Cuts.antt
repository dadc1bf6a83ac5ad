-- The lines of a stream, up to the first that passes a limit, and that a reader gives just these, however the stream is cut into pieces.
use Rattle.std.specs.Prelude.{◌≡◌, ℕ, ◌+◌, List, [], ◌∷◌, ◌++◌, drop, true, false, Option, Some, None}
use Rattle.ecf_lang.specs.declared.receipt.Stop.{Stop}
use Rattle.ecf_lang.specs.declared.receipt.StopCause.{StopCause}
use Rattle.ecf_lang.specs.declared.receipt.StopCause.TheVariants.{Long, Bytes}
use Rattle.ecf_lines.specs.Stream.{bytes_of_line, lines_of, limit_passed}
use Rattle.ecf_stream.specs.declared.line_reader.Fed.{Fed}
use Rattle.ecf_stream.specs.declared.line_reader.Fed.TheVariants as fed
use Rattle.ecf_stream.specs.LineState.{LineState, opened, answer_to, state_after, IsWithin}

-- lines, and the limit that was passed behind them, if one was
pub record Cut : Type 0 where
  pub lines : List (List ℕ)
  pub stop : Option Stop

-- a line behind so many, and then the rest; where it passes a limit, the stop
abbrev pub cut_with : Option StopCause → ℕ → List ℕ → Cut → Cut
cut_with None before line rest = record { lines = line ∷ rest.lines; stop = rest.stop }
cut_with (Some cause) before line rest = record { lines = []; stop = Some (record { line = before + 1; cause = cause }) }

-- lines behind so many lines and bytes, within these limits of a line and of the stream; no LF ended the last
unfoldable pub cut_from : ℕ → ℕ → ℕ → ℕ → List (List ℕ) → Cut
cut_from most_line most_bytes before bytes [] = record { lines = []; stop = None }
cut_from most_line most_bytes before bytes (last ∷ []) = cut_with (limit_passed most_line most_bytes bytes false last) before last (record { lines = []; stop = None })
cut_from most_line most_bytes before bytes (line ∷ next ∷ more) =
    cut_with (limit_passed most_line most_bytes bytes true line) before line (cut_from most_line most_bytes (before + 1) (bytes + bytes_of_line true line) (next ∷ more))

-- what is to come of a reader, from what it has of the line at hand and from these bytes
abbrev pub to_come : LineState → List ℕ → Cut
to_come s bytes = cut_from (opened s).most_line (opened s).most_bytes (opened s).lines (opened s).bytes (lines_of ((opened s).line ++ bytes))

-- the stop at the line to which the next byte comes
abbrev pub stop_only : LineState → StopCause → Cut
stop_only s cause = record { lines = []; stop = Some (record { line = (opened s).lines + 1; cause = cause }) }

-- What an answer says of what was to come of a piece and of any bytes behind it: the same is to come yet; or the line that is whole, and then
-- what is to come of what wasn't taken; or a stop alone.
abbrev pub Says : Fed → LineState → LineState → List ℕ → List ℕ → Type 0
Says fed.More old new piece more = to_come old (piece ++ more) ≡ to_come new more
Says (fed.Line taken) old new piece more = to_come old (piece ++ more) ≡ cut_with None (opened old).lines new.line (to_come new (drop taken piece ++ more))
Says (fed.Long taken) old new piece more = to_come old (piece ++ more) ≡ stop_only old Long
Says (fed.Bytes taken) old new piece more = to_come old (piece ++ more) ≡ stop_only old Bytes

-- that holds of each piece that is fed before a limit was passed
abbrev pub LinesAreCut : Type 0
LinesAreCut = (s : LineState) (piece more : List ℕ) → IsWithin s → s.over ≡ None → Says (answer_to s piece) s (state_after s piece) piece more
