use Rattle.std.proofs.Common.{◌∙◌, ◌∷◌, ap, sym, ◌++◌, ◌≡◌, arith, length}
use Rattle.std.specs.Option.{option_map}
use Rattle.ecf_lines.specs.Line.{values_of}
use Rattle.ecf_stream.proofs.WordLaws.{seen, next_value}
use Rattle.ecf_stream.proofs.line.values_of.Goals as goal

pub loop-ty-preserved : goal.loop-ty-preserved
loop-ty-preserved c =
    let this = c.in-Some.ensures.steps in
    let before = c.loop-ty.values.items in
    record {
      values =
          c.loop-ty.invariant.values
          ∙ ap (λ params. option_map (λ more. before ++ more) (values_of c.args.typed.now params (seen c.loop-ty.ty-iterator.b.rest.now))) this.0
          ∙ ap (λ words. option_map (λ more. before ++ more) (values_of c.args.typed.now (c.in-Some.ty.now ∷ c.next.new.self.a.rest.now) (seen words))) this.1
          ∙ next_value c.args.typed.now c.in-Some.ty.now c.next.new.self.a.rest.now c.in-Some.word.now.now (seen c.next.new.self.b.rest.now) c.in-Some-value_of.value before c.in-Some-value_of.ensures
          ∙ ap (λ items. option_map (λ more. items ++ more) (values_of c.args.typed.now c.next.new.self.a.rest.now (seen c.next.new.self.b.rest.now))) (sym c.in_ok-push.ensures.items);
      lengths = let e : length (c.in-Some.ty.now ∷ c.next.new.self.a.rest.now) ≡ length (c.in-Some.word.now ∷ c.next.new.self.b.rest.now) = sym (ap length this.0) ∙ c.loop-ty.invariant.lengths ∙ ap length this.1 in omega (arith, e);
    }
