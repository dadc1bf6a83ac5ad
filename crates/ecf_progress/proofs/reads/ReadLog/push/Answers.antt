use Rattle.std.proofs.Common.{◌≡◌, [], ◌∷◌, ◌++◌, length, length-append, ap, sym, ◌∙◌, arith}
use Rattle.ecf_lang.specs.Store.{find_cell}
use Rattle.ecf_progress.proofs.reads.ReadLog.push.Goals as goal

pub invariant_of-self-2 : goal.invariant_of-self-2
invariant_of-self-2 c =
    let given : c.deref.result.now ≡ c.reserve.new.self.items = c.deref.ensures.value in
    let grown = simp length-append at (ap length c.push_reserved.ensures.items) in
    let same = ap length given in
    λ more q.
    c.in_ok-note.ensures.noted (omega arith) q
    ∙ ap (λ l. find_cell (l ++ (c.args.cell, c.args.value) ∷ []) q) given
    ∙ ap (λ l. find_cell l q) (sym c.push_reserved.ensures.items)
