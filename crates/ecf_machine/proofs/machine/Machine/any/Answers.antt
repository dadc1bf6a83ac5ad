use Rattle.std.proofs.Common.{◌≡◌, ◌∷◌, drop, ap, sym, ◌∙◌, length-drop, arith}
use Rattle.std.proofs.lemmas.List.{take_all}
use Rattle.ecf_machine.specs.Continuations.{from_part}
use Rattle.ecf_machine.specs.Parts.{any_in}
use Rattle.ecf_machine.proofs.StepLaws.{advances_from, begins_so}
use Rattle.ecf_machine.proofs.machine.Machine.any.Goals as goal

pub returns-in-len1-up : goal.returns-in-len1-up
returns-in-len1-up g c =
    let at = c.args.at.now in let m = c.args.self.now in
    let is : c.args.parts.now ≡ c.part-item.result ∷ drop 1 c.args.parts.now = begins_so c.args.parts.now c.part-item.result c.in-len1-up.len_at_least c.part-item.is in
    advances_from at _ _ _ _ _ _ _ _
    (ap (λ parts. from_part at m (any_in c.args.value parts)) (is ∙ ap (λ others. c.part-item.result ∷ others) (sym (take_all _ _ (omega (arith, length-drop 1 c.args.parts.now))))))
    (omega arith) (λ _. omega arith) c.any_further.ensures
