use Rattle.std.proofs.Common.{◌≡◌, Bool, true, false, refl, ap, sym, ◌∙◌, arith}
use Rattle.ecf_lang.specs.declared.typed.TypedExpr.TheVariants as expr
use Rattle.ecf_lang.specs.Forms.{value_number, value_flag, value_here, value_name, value_call, value_and, value_or}
use Rattle.ecf_lang.specs.Meaning.{flag_of}
use Rattle.ecf_machine.specs.Parts.{constant_in, frame_in, value_in}
use Rattle.ecf_machine.specs.Continuations.{continuation_of, context_in, resume, from_part, from_wait}
use Rattle.ecf_machine.specs.Load.{size_of, parts_size, args_size}
use Rattle.ecf_machine.specs.declared.task.Task.TheVariants as task
use Rattle.ecf_machine.proofs.SizeLaws.{size_number, size_flag, size_here, size_name, size_at, size_call, size_not, size_sum, size_product, size_compare, size_and, size_or}
use Rattle.ecf_machine.proofs.StepLaws.{advances_from, eval_at, eval_not, eval_sum, eval_product, eval_compare}
use Rattle.ecf_machine.proofs.machine.Machine.eval.Goals as goal

-- a flag as a byte
flag_byte : (b : Bool) → flag_of b ≡ mir.Val.bool_byte b
flag_byte true = refl
flag_byte false = refl

pub returns-in-Number : goal.returns-in-Number
returns-in-Number g c =
    let at = c.args.at.now in let m = c.args.self.now in let next = continuation_of at m.tasks in let context = context_in m in
    advances_from at _ _ _ _ _ _ _ _
    (ap (λ e. from_part at m (value_in e)) c.in-Number.is
    ∙ ap (resume next context) (value_number context.backing.store (frame_in at context) context.locals.top _ _))
    (omega arith) (λ _. omega (arith, ap size_of c.in-Number.is, size_number c.in-Number.value)) c.constant.ensures

pub returns-in-Flag : goal.returns-in-Flag
returns-in-Flag g c =
    let at = c.args.at.now in let m = c.args.self.now in let next = continuation_of at m.tasks in let context = context_in m in
    advances_from at _ _ _ _ _ _ _ _
    (ap (λ e. from_part at m (value_in e)) c.in-Flag.is
    ∙ ap (resume next context) (value_flag context.backing.store (frame_in at context) context.locals.top _ _)
    ∙ ap (λ v. from_part at m (constant_in v)) (flag_byte c.in-Flag.value ∙ sym c.from.ensures))
    (omega arith) (λ _. omega (arith, ap size_of c.in-Flag.is, size_flag c.in-Flag.value)) c.constant-in-Flag.ensures

pub returns-in-Here : goal.returns-in-Here
returns-in-Here g c =
    let at = c.args.at.now in let m = c.args.self.now in let next = continuation_of at m.tasks in let context = context_in m in
    advances_from at _ _ _ _ _ _ _ _
    (ap (λ e. from_part at m (value_in e)) c.in-Here.is
    ∙ ap (resume next context) (value_here context.backing.store (frame_in at context) context.locals.top _)
    ∙ ap (λ v. from_part at m (constant_in v)) (sym c.from-in-Here.ensures))
    (omega arith) (λ _. omega (arith, ap size_of c.in-Here.is, size_here)) c.constant-in-Here.ensures

pub returns-in-Name : goal.returns-in-Name
returns-in-Name g c =
    let at = c.args.at.now in let m = c.args.self.now in let next = continuation_of at m.tasks in let context = context_in m in
    advances_from at _ _ _ _ _ _ _ _
    (ap (λ e. from_part at m (value_in e)) c.in-Name.is
    ∙ ap (resume next context) (value_name context.backing.store (frame_in at context) context.locals.top _ _))
    (omega arith) (λ _. omega (arith, ap size_of c.in-Name.is, size_name c.in-Name.place)) c.named.ensures

pub returns-in-Call : goal.returns-in-Call
returns-in-Call g c =
    let at = c.args.at.now in let m = c.args.self.now in let next = continuation_of at m.tasks in let context = context_in m in
    advances_from at _ _ _ _ _ _ _ _
    (ap (λ e. from_part at m (value_in e)) c.in-Call.is
    ∙ ap (resume next context) (value_call context.backing.store (frame_in at context) context.locals.top _ _))
    (omega arith) (λ _. omega (arith, ap size_of c.in-Call.is, size_call c.in-Call.call)) c.call.ensures

pub returns-in-At : goal.returns-in-At
returns-in-At g c =
    let at = c.args.at.now in let m = c.args.self.now in let next = continuation_of at m.tasks in let context = context_in m in
    advances_from at _ _ _ _ _ _ _ _
    (ap (λ e. from_part at m (value_in e)) c.in-At.is
    ∙ eval_at at next context _ _ _
    ∙ ap (from_wait at m (task.Index c.in-At.map)) (sym c.get.ensures))
    (omega arith) (λ _. omega (arith, ap size_of c.in-At.is, size_at c.in-At.map c.in-At.key, ap size_of c.get.ensures)) c.wait.ensures

pub returns-in-Not : goal.returns-in-Not
returns-in-Not g c =
    let at = c.args.at.now in let m = c.args.self.now in let next = continuation_of at m.tasks in let context = context_in m in
    advances_from at _ _ _ _ _ _ _ _
    (ap (λ e. from_part at m (value_in e)) c.in-Not.is
    ∙ eval_not at next context _ _
    ∙ ap (from_wait at m task.Not) (sym c.get-in-Not.ensures))
    (omega arith) (λ _. omega (arith, ap size_of c.in-Not.is, size_not c.in-Not.inner, ap size_of c.get-in-Not.ensures)) c.wait-in-Not.ensures

pub returns-in-Product : goal.returns-in-Product
returns-in-Product g c =
    let at = c.args.at.now in let m = c.args.self.now in let next = continuation_of at m.tasks in let context = context_in m in
    advances_from at _ _ _ _ _ _ _ _
    (ap (λ e. from_part at m (value_in e)) c.in-Product.is
    ∙ ap (λ parts. from_part at m (value_in (expr.Product c.in-Product.first parts))) (sym c.as_slice.ensures)
    ∙ eval_product at next context _ c.as_slice.result _
    ∙ ap (from_wait at m (task.First c.as_slice.result)) (sym c.get-in-Product.ensures))
    (omega arith) (λ _. omega (arith, ap size_of c.in-Product.is, size_product c.in-Product.first c.in-Product.rest, ap parts_size c.as_slice.ensures, ap size_of c.get-in-Product.ensures)) c.wait-in-Product.ensures

pub returns-in-Sum : goal.returns-in-Sum
returns-in-Sum g c =
    let at = c.args.at.now in let m = c.args.self.now in let next = continuation_of at m.tasks in let context = context_in m in
    advances_from at _ _ _ _ _ _ _ _
    (ap (λ e. from_part at m (value_in e)) c.in-Sum.is
    ∙ ap (λ parts. from_part at m (value_in (expr.Sum c.in-Sum.first parts))) (sym c.as_slice-in-Sum.ensures)
    ∙ eval_sum at next context _ c.as_slice-in-Sum.result _
    ∙ ap (from_wait at m (task.First c.as_slice-in-Sum.result)) (sym c.get-in-Sum.ensures))
    (omega arith) (λ _. omega (arith, ap size_of c.in-Sum.is, size_sum c.in-Sum.first c.in-Sum.rest, ap parts_size c.as_slice-in-Sum.ensures, ap size_of c.get-in-Sum.ensures)) c.wait-in-Sum.ensures

pub returns-in-Compare : goal.returns-in-Compare
returns-in-Compare g c =
    let at = c.args.at.now in let m = c.args.self.now in let next = continuation_of at m.tasks in let context = context_in m in
    advances_from at _ _ _ _ _ _ _ _
    (ap (λ e. from_part at m (value_in e)) c.in-Compare.is
    ∙ ap (λ e. from_part at m (value_in (expr.Compare c.in-Compare.left c.in-Compare.op e))) (sym c.get-in-Compare.ensures)
    ∙ eval_compare at next context _ _ c.get-in-Compare.result _
    ∙ ap (from_wait at m (task.Left c.in-Compare.op c.get-in-Compare.result)) (sym c.get-in-Compare-2.ensures))
    (omega arith) (λ _. omega (arith, ap size_of c.in-Compare.is, size_compare c.in-Compare.left c.in-Compare.op c.in-Compare.right, ap size_of c.get-in-Compare.ensures, ap size_of c.get-in-Compare-2.ensures)) c.wait-in-Compare.ensures

pub returns-in-And : goal.returns-in-And
returns-in-And g c =
    let at = c.args.at.now in let m = c.args.self.now in let next = continuation_of at m.tasks in let context = context_in m in
    advances_from at _ _ _ _ _ _ _ _
    (ap (λ e. from_part at m (value_in e)) c.in-And.is
    ∙ ap (λ parts. from_part at m (value_in (expr.And parts))) (sym c.as_slice-in-And.ensures)
    ∙ ap (resume next context) (value_and context.backing.store (frame_in at context) context.locals.top _ _))
    (omega arith) (λ _. omega (arith, ap size_of c.in-And.is, size_and c.in-And.parts, ap args_size c.as_slice-in-And.ensures)) c.begin_all.ensures

pub returns-in-Or : goal.returns-in-Or
returns-in-Or g c =
    let at = c.args.at.now in let m = c.args.self.now in let next = continuation_of at m.tasks in let context = context_in m in
    advances_from at _ _ _ _ _ _ _ _
    (ap (λ e. from_part at m (value_in e)) c.in-Or.is
    ∙ ap (λ parts. from_part at m (value_in (expr.Or parts))) (sym c.as_slice-in-Or.ensures)
    ∙ ap (resume next context) (value_or context.backing.store (frame_in at context) context.locals.top _ _))
    (omega arith) (λ _. omega (arith, ap size_of c.in-Or.is, size_or c.in-Or.parts, ap args_size c.as_slice-in-Or.ensures)) c.begin_any.ensures
