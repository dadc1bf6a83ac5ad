use Rattle.std.proofs.Common.{refl, get_or, arith}
use Rattle.ecf_rows.proofs.WordLaws.{lowest, empty_word}
use Rattle.ecf_rows.proofs.words.first_in.Goals.{else-k-words-via-then-k-words+else-words-k-ne0, else-k-words-via-else-k-words}
use Rattle.ecf_rows.proofs.words.first_in.Goals as goal

pub returns-then-words-k-ne0 : goal.returns-then-words-k-ne0
returns-then-words-k-ne0 c = lowest c.args.words.now c.args.k (get_or c.args.words.now c.args.k 0) refl (grind (arith, c.type_inv.words c.args.k)) c.if-words-k-ne0.true

pub returns-else-k-words : goal.returns-else-k-words
returns-else-k-words c = elim c.else-k-words.branch [
  | else-k-words-via-then-k-words+else-words-k-ne0 w ↦ empty_word c.args.words.now c.args.k (λ _. w.if-words-k-ne0.false)
  | else-k-words-via-else-k-words w ↦ empty_word c.args.words.now c.args.k (λ l. absurd (omega (arith, l)))
]
