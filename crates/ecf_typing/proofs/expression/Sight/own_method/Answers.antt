use Rattle.std.proofs.Common.{sym, ap, ◌∙◌, if◌then◌else◌, None}
use Rattle.std.specs.Option.{option_map}
use Rattle.ecf_faults.specs.Tables.{declaration_of}
use Rattle.ecf_typing.specs.Views.{signature_view, view_of}
use Rattle.ecf_typing.proofs.ExpressionLaws.{found_seen}
use Rattle.ecf_typing.proofs.expression.Sight.own_method.Goals as goal

pub returns-then-is_some : goal.returns-then-is_some
returns-then-is_some c =
    let around = view_of c.args.self.now.around.now in
    let name = c.args.name.now in
    let has = sym (rw (c.get.ensures, c.as_bytes.ensures) at c.is_some.ensures) ∙ c.if-is_some.true in
    ap (option_map signature_view) (rw c.as_bytes-then-is_some.ensures at c.get-then-is_some.ensures) ∙ sym (found_seen signature_view _ name)
    ∙ sym (ap (λ b. if b then declaration_of around.signatures name else None) has)
