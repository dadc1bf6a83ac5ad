-- Rounds after rounds, whether or not rows may be given up.
use Rattle.std.proofs.Common.{List, [], ◌∷◌, ◌++◌, sym, ap, ◌∙◌, subst}
use Rattle.std.proofs.lemmas.List.{append_assoc, append-nil}
use Rattle.std.proofs.lemmas.List.Elements.{All-append}
use Rattle.ecf_core.specs.declared.book.LogEntry.{LogEntry}
use Rattle.ecf_core.specs.Rounds.{MayAdd, AreDue, IsRound}

pub due_after : (earlier es fs : List LogEntry) → AreDue earlier es → AreDue (earlier ++ es) fs → AreDue earlier (es ++ fs)
due_after earlier [] fs h k = subst (λ l. AreDue l fs) (append-nil earlier) k
due_after earlier (e ∷ es) fs h k = (h.0, due_after (earlier ++ e ∷ []) es fs h.1 (subst (λ l. AreDue l fs) (sym (append_assoc earlier (e ∷ []) es)) k))

pub chain : (may : Type 0) (first second third : List LogEntry) → IsRound may first second → IsRound may second third → IsRound may first third
chain may first second third h k = record {
  added = h.added ++ k.added;
  begins = k.begins ∙ ap (λ l. l ++ k.added) h.begins ∙ append_assoc first h.added k.added;
  allowed = All-append (λ (e : LogEntry). MayAdd may e.what) h.added k.added h.allowed k.allowed;
  due = due_after first h.added k.added h.due (subst (λ l. AreDue l k.added) h.begins k.due);
}
