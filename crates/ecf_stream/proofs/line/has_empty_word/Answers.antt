use Rattle.std.proofs.Common.{ℕ, List, Bor, sym, ◌∙◌, rules, tests}
use Rattle.std.proofs.lemmas.Iterator.{YieldsList-from_slice}
use Rattle.std.proofs.lemmas.Iterator.Search.{any_from_yields_List}
use Rattle.ecf_lines.specs.Line.{is_empty}
use Rattle.ecf_stream.proofs.WordLaws.{list_any-seen}
use Rattle.ecf_stream.proofs.line.has_empty_word.Goals as goal

pub returns : goal.returns
returns c =
    any_from_yields_List (λ (word : Bor (List ℕ)). is_empty word.now) _ _ _ c.any.ensures.ran (YieldsList-from_slice c.args.words.now cc) (λ x b q k. search (rules, tests))
    ∙ sym (list_any-seen is_empty c.args.words.now)
