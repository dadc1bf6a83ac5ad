use Rattle.std.proofs.Common.{◌≡◌, take, drop, vec_len}
use Rattle.ecf_progress.specs.Undo.{before}
use Rattle.ecf_progress.proofs.state.put_all_back.Given as goal

abbrev pub invariant-loop-undo : goal.invariant-loop-undo
invariant-loop-undo l =
    (before (drop l.len l.undo.items) l.written.entries ≡ before (drop l.len l.fn.undo.items) l.fn.written.entries) × (take l.len l.undo.items ≡ take l.len l.fn.undo.items)

abbrev pub decreases-loop-undo : goal.decreases-loop-undo
decreases-loop-undo l = vec_len l.undo
