use Rattle.std.proofs.Common.{rules, ◌≡◌, ◌+◌, [], ◌∷◌, ◌++◌, ℕ, arith, ap, sym, ◌∙◌}
use Rattle.ecf_crew_tests.specs.Sums.{entry, is_legal, sum_of}
use Rattle.ecf_crew_tests.proofs.SumLaws.{sum_more, legal_more}
use Rattle.ecf_crew_tests.proofs.sum.Sum.add.Goals as goal

pub invariant_of-self-2 : goal.invariant_of-self-2
invariant_of-self-2 g c =
    let old = c.args.self.now in
    let e = entry c.args.amount (old.sum + c.args.amount) in
    let test = c.if-amount-self.false in
    let within = old.within in
    let entries : c.push_reserved.new.self.items ≡ old.entries.items ++ e ∷ [] = search rules in
    record {
      kept = sym (ap sum_of entries ∙ sum_more 0 old.entries.items e);
      legal = ap (is_legal old.limit 0) entries ∙ legal_more old.limit 0 old.entries.items e old.legal (ap (λ (z : ℕ). z + c.args.amount) old.kept) (omega arith);
      within = omega arith;
      counted = search rules;
      small = search rules;
    }
