use Rattle.std.proofs.Common.{◌≡◌, ℕ, List, Bor, ap, sym, ◌∙◌, map, rules}
use Rattle.std.specs.List.{slice_split}
use Rattle.std.proofs.lemmas.Iterator.Consumers.{map_from_collect}
use Rattle.std.proofs.lemmas.Iterator.Splits.{YieldsList-from_slice_split}
use Rattle.ecf_lines.specs.Line.{is_semicolon}
use Rattle.ecf_stream.proofs.CallLaws.{split_from}
use Rattle.ecf_stream.proofs.line.calls_in.Goals as goal

pub returns : goal.returns
returns c = split_from c.args.words.now c.collect.result (map_from_collect _ c.collect.ensures.ran (YieldsList-from_slice_split _ (λ (word : Bor (List ℕ)). is_semicolon word.now) c.args.words.now c.split.ensures.rest c.split.ensures.done c.split.ensures.closure (λ x b q called. search rules)))
