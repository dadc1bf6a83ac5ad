use Rattle.std.proofs.Common.{◌-◌, [], ◌∷◌, ◌++◌, length, take, drop, arith}
use Rattle.ecf_grammar.specs.declared.tokens.Sign.TheVariants.{CloseBrace}
use Rattle.ecf_show.specs.Marks.{sign_mark, comma}
use Rattle.ecf_show.specs.Marks.Mark.{Space}
use Rattle.ecf_show.specs.Files.{entry_marks}
use Rattle.ecf_show.proofs.TextLaws.{item_written, wrote_then}
use Rattle.ecf_show.proofs.ExpressionLaws.{extended}
use Rattle.ecf_show.proofs.FileLaws.{entries_written}
use Rattle.ecf_show.proofs.files.write_entries.Goals as goal

pub loop-entry-preserved : goal.loop-entry-preserved
loop-entry-preserved c =
    item_written (λ entry. comma ++ entry_marks entry) (take (length c.args.entries.now - 1) (drop 1 c.args.entries.now)) c.loop-entry.entry-index c.entry-item.result _ _ _ c.loop-entry.invariant c.loop-entry-test.true c.entry-item.is
    (wrote_then _ _ _ comma (entry_marks c.entry-item.result) c.in_ok-extend_from_slice-2.ensures.items c.in_ok-write_entry-2.ensures)

pub returns : goal.returns
returns c =
    entries_written _ c.args.entries.now c.first-item.result c.loop-entry.entry-index _ _ _ _ _ (omega (arith, c.in-len1-up.len_at_least)) c.first-item.is c.in_ok-extend_from_slice.ensures.items c.in_ok-write_entry.ensures c.loop-entry.invariant c.loop-entry-test.false (extended _ _ _ (Space ∷ sign_mark CloseBrace ∷ []) c.extend_from_slice-2.ensures.items)
