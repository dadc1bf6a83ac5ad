use Rattle.std.proofs.Common.{ℕ, List, Bor, nat_le, length, sym, ◌∙◌, rules, tests}
use Rattle.std.proofs.lemmas.Iterator.{YieldsList-from_slice}
use Rattle.std.proofs.lemmas.Iterator.Search.{all_from_yields_List}
use Rattle.ecf_stream.proofs.CallLaws.{two_words-seen}
use Rattle.ecf_stream.proofs.line.have_two_words.Goals as goal

pub returns : goal.returns
returns c =
    all_from_yields_List (λ (call : Bor (List (Bor (List ℕ)))). nat_le 2 (length call.now)) _ _ _ c.all.ensures.ran (YieldsList-from_slice c.args.calls.now cc) (λ x b q k. search (rules, tests))
    ∙ sym (two_words-seen c.args.calls.now)
