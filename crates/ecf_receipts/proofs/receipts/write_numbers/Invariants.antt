use Rattle.std.proofs.Common.{◌≡◌, ◌++◌, take}
use Rattle.ecf_texts.specs.Receipts.{numbers_text}
use Rattle.ecf_receipts.proofs.receipts.write_numbers.Given as goal

abbrev pub invariant-loop-number : goal.invariant-loop-number
invariant-loop-number l = l.text.items ≡ l.fn.text.items ++ numbers_text (take l.number-index l.numbers)
