-- What going through an expression tells of it.
use Rattle.std.specs.Prelude.{◌≡◌, ℕ, ◌^◌, Option, None, Some}
use Rattle.ecf_lang.specs.declared.tree.Expr.{Expr}
use Rattle.ecf_lang.specs.declared.tree.CallExpr.{CallExpr}
use Rattle.ecf_lang.specs.declared.tree.Ty.{Ty}
use Rattle.ecf_lang.specs.declared.typed.TypedExpr.{TypedExpr}
use Rattle.ecf_lang.specs.declared.typed.TypedCall.{TypedCall}
use Rattle.ecf_faults.specs.declared.Fault.{Fault}
use Rattle.ecf_faults.specs.declared.Referent.{Referent}
use Rattle.ecf_faults.specs.declared.Referent.TheVariants.{Object}
use Rattle.ecf_faults.specs.Tables.{number_below}
use Rattle.ecf_faults.specs.Expressions.{Report, report_of, call_report_of, faults_for}
use Rattle.ecf_faults.specs.Least.{least_with}
use Rattle.ecf_typing.specs.declared.form.Summary.{Summary}
use Rattle.ecf_typing.specs.declared.expression.Sight.{Sight}
use Rattle.ecf_typing.specs.Views.{contents_of, view_of}

-- an object, where one is found; else what is given
abbrev pub object_else : Referent → Option (ℕ × ℕ) → Referent
object_else other (Some (object, token)) = Object (number_below (2 ^ 8) object)
object_else other None = other

-- a report without its faults
abbrev pub summary_of : {Form : Type 0} → Report Form → Summary Form
summary_of j = record { place = j.place; ty = j.ty; form = j.form }

-- an expression of a type that its form alone gives
abbrev pub plain_summary : ℕ → Ty → TypedExpr → Summary TypedExpr
plain_summary place ty form = record { place = place; ty = Some ty; form = form }

-- the report of an expression in this sight
abbrev pub report : Sight → Expr → Report TypedExpr
report sight e = report_of (view_of sight.around.now) (contents_of sight.visible.now) e

abbrev pub call_report : Sight → CallExpr → Report TypedCall
call_report sight c = call_report_of (view_of sight.around.now) (contents_of sight.visible.now) c

-- an expression was gone through: it was summed up, and its faults were noted
pub record Summarizes {Form : Type 0} (j : Report Form) (old new : Option Fault) (c : Summary Form) : Type 0 where
  pub says : c ≡ summary_of j
  pub noted : new ≡ least_with old j.faults

-- the same of an expression of which a type is required, or none
pub record SummarizesFor {Form : Type 0} (want : Option Ty) (j : Report Form) (old new : Option Fault) (c : Summary Form) : Type 0 where
  pub says : c ≡ summary_of j
  pub noted : new ≡ least_with old (faults_for want j)
