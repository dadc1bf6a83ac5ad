use Rattle.std.proofs.lemmas.Bool.{and_from, not_from_false}
use Rattle.ecf_rows.proofs.TurnLaws.{next_from}
use Rattle.ecf_rows.proofs.placed_in_order.Goals as goal

pub returns : goal.returns
returns c s r before opens = and_from _ _ (not_from_false _ opens) (next_from s r (λ q l _. before q l))
