use Rattle.std.proofs.Common.{ap}
use Rattle.ecf_show.specs.Marks.{text_of}
use Rattle.ecf_show.specs.Expressions.{Shown}
use Rattle.ecf_show.specs.Forms.{shown_number, shown_flag, shown_here, shown_name, shown_internal}
use Rattle.ecf_show.proofs.CaseLaws.{sum, product, compare, both, either, negation, indexed, call, bare, with_two}
use Rattle.std.specs.Fmt.{digits}
use Rattle.ecf_show.proofs.cases.worked_expressions.Goals as goal

pub returns : goal.returns
unfolding digits
returns c =
    record {
      sum_in_product = ap (λ (s : Shown). text_of s.marks) (product _ _ _ _ _ (sum _ _ _ _ _ (shown_name _ _) (shown_name _ _)) (negation _ _ _ (product _ _ _ _ _ (shown_name _ _) (shown_name _ _))));
      product_in_sum = ap (λ (s : Shown). text_of s.marks) (sum _ _ _ _ _ (product _ _ _ _ _ (negation _ _ _ (shown_name _ _)) (shown_name _ _)) (product _ _ _ _ _ (shown_name _ _) (shown_name _ _)));
      in_itself = ap (λ (s : Shown). text_of s.marks) (sum _ _ _ _ _ (sum _ _ _ _ _ (shown_name _ _) (shown_name _ _))
          (sum _ _ _ _ _ (product _ _ _ _ _ (shown_name _ _) (product _ _ _ _ _ (shown_name _ _) (shown_name _ _))) (negation _ _ _ (negation _ _ _ (shown_name _ _)))));
      compared = ap (λ (s : Shown). text_of s.marks) (compare _ _ _ _ _ (sum _ _ _ _ _ (shown_name _ _) (shown_name _ _)) (compare _ _ _ _ _ (shown_name _ _) (shown_name _ _)));
      sum_of_comparison = ap (λ (s : Shown). text_of s.marks) (sum _ _ _ _ _ (compare _ _ _ _ _ (shown_name _ _) (shown_name _ _)) (shown_number _ _));
      disjunction = ap (λ (s : Shown). text_of s.marks) (either _ _ _ _ (both _ _ _ _ (compare _ _ _ _ _ (shown_name _ _) (shown_name _ _)) (both _ _ _ _ (shown_name _ _) (shown_name _ _))) (either _ _ _ _ (shown_name _ _) (shown_flag _ _)));
      conjunction = ap (λ (s : Shown). text_of s.marks) (both _ _ _ _ (either _ _ _ _ (shown_name _ _) (shown_name _ _)) (negation _ _ _ (either _ _ _ _ (shown_name _ _) (shown_name _ _))));
      comparison_of_conjunction = ap (λ (s : Shown). text_of s.marks) (compare _ _ _ _ _ (both _ _ _ _ (shown_name _ _) (shown_name _ _)) (negation _ _ _ (call _ _ (shown_internal _ _ _ _))));
      target = ap (λ (s : Shown). text_of s.marks) (call _ _ (with_two _ _ _ _ _ _ _ _ _ (call _ _ (shown_internal _ _ _ _)) (call _ _ (bare _ _ _ _ _ (shown_here _))) (either _ _ _ _ (shown_name _ _) (shown_name _ _))));
      index = ap (λ (s : Shown). text_of s.marks) (call _ _ (bare _ _ _ _ _ (indexed _ _ _ _ (sum _ _ _ _ _ (shown_name _ _) (shown_number _ _)))));
    }
