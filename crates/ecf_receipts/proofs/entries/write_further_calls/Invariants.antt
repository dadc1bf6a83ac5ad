use Rattle.std.proofs.Common.{◌≡◌, ◌++◌, take}
use Rattle.std.specs.List.{flat_map}
use Rattle.ecf_texts.specs.Entries.{further_call_text}
use Rattle.ecf_receipts.proofs.entries.write_further_calls.Given as goal

abbrev pub invariant-loop-call : goal.invariant-loop-call
invariant-loop-call l =
    l.text.items ≡ l.fn.text.items ++ flat_map (further_call_text l.typed) (take l.call-index l.calls)
