use Rattle.std.proofs.Common.{refl}
use Rattle.ecf_typing.proofs.LoopLaws.{on_ok_then}
use Rattle.ecf_typing.proofs.DeclarationLaws.{method_step}
use Rattle.ecf_typing.proofs.declaration.declare_method.Goals as goal

pub returns-in-Method : goal.returns-in-Method
returns-in-Method c =
    on_ok_then c.declare.result _ _ c.declare.ensures
    (λ step. method_step c.args.member.now c.in-Method.at c.in-Method.name c.in-Method.params c.in-Method.answer c.in-Method.body _ _ _ _ c.in-Method.is c.as_bytes.ensures c.as_slice.ensures refl c.len.ensures step)
