use Rattle.std.proofs.Common.{◌≡◌, [], ◌∷◌, map, drop}
use Rattle.ecf_stream.specs.Calls.{calls_behind}
use Rattle.ecf_stream.proofs.CallLaws.{seen_calls}
use Rattle.ecf_stream.proofs.line.with_further_calls.Given as goal

-- the calls so far, and behind them those that are left
abbrev pub invariant-loop-words : goal.invariant-loop-words
invariant-loop-words l = calls_behind l.typed (l.fn.call ∷ []) (seen_calls l.further) ≡ calls_behind l.typed l.calls (seen_calls (drop l.words-index l.further))
