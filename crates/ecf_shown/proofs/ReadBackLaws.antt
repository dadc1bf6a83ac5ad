-- The canonical text of a tree that some text spells reads as the same tree but for places.
use Rattle.std.proofs.Common.{◌≡◌, ℕ, List, [], ap, sym, subst, ◌∙◌}
use Rattle.std.specs.List.{AllByRecursion}
use Rattle.ecf_lang.specs.declared.tree.Tree.{Tree}
use Rattle.ecf_grammar.specs.Spellings.{LexemesBeginApart}
use Rattle.ecf_grammar.specs.Lexemes.{lexemes_of, with_numbers}
use Rattle.ecf_grammar.specs.Reading.{tokens_from}
use Rattle.ecf_grammar.specs.Spells.{SpellsFile}
use Rattle.ecf_show.specs.Marks.{Marks, text_of}
use Rattle.ecf_show.specs.Files.{file_marks}
use Rattle.ecf_shown.specs.Written.{IsTextOf, ReadsBack}
use Rattle.ecf_shown.proofs.CutLaws.{IsValid, StandApart, cut_lexemes, cut_valid, pieces_of, marks_cut, marks_lexemes, marks_in_range}
use Rattle.ecf_shown.proofs.SayLaws.{numbered, numbered_tokens, AreValid, numbers_valid}
use Rattle.ecf_shown.proofs.FileLaws.{file_is_read}

-- the tokens of a text of a tree are valid
text_valid : (text : List ℕ) (tree : Tree) → (is : IsTextOf text tree) → AreValid (with_numbers 0 (lexemes_of text (tokens_from 0 is.pieces)))
text_valid text tree is =
    numbers_valid 0 (lexemes_of text (tokens_from 0 is.pieces))
    (subst (AllByRecursion IsValid) (sym (cut_lexemes [] text is.pieces is.cut)) (cut_valid 0 text is.pieces is.cut is.in_range))

-- the tokens of the text of marks that stand apart, with their numbers
marks_tokens : LexemesBeginApart → (marks : Marks) → StandApart marks → numbered 0 marks ≡ with_numbers 0 (lexemes_of (text_of marks) (tokens_from 0 (pieces_of marks)))
marks_tokens laws marks apart =
    numbered_tokens 0 marks ∙ ap (with_numbers 0) (sym (cut_lexemes [] (text_of marks) (pieces_of marks) (marks_cut laws marks apart) ∙ marks_lexemes marks))

pub reads_back : LexemesBeginApart → ReadsBack
reads_back laws text tree is =
    let file = file_is_read is.spelled (text_valid text tree is) in
    let it = file.tokens 0 in
    let marks = file_marks tree in (
      it.again,
      record {
        pieces = pieces_of marks;
        cut = marks_cut laws marks file.apart;
        in_range = marks_in_range marks file.apart 0;
        spelled = subst (λ ls. SpellsFile ls it.again) (marks_tokens laws marks file.apart) it.spelled;
      },
      it.alike,
    )
