use Rattle.std.proofs.Common.{◌≡◌, ◌++◌}
use Rattle.std.specs.Slice.Iter.{iter_rest}
use Rattle.std.specs.Iterator.Adapters.{zip_first, zip_second}
use Rattle.ecf_texts.specs.Words.{arguments_text}
use Rattle.ecf_receipts.proofs.words.write_arguments.Given as goal

-- what is written and what is left to write make up the whole
abbrev pub invariant-loop-ty : goal.invariant-loop-ty
invariant-loop-ty l =
    l.text.items ++ arguments_text l.typed (iter_rest (zip_first l.ty-iterator)) (iter_rest (zip_second l.ty-iterator))
    ≡ l.fn.text.items ++ arguments_text l.typed l.params l.args
