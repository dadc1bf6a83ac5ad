-- How an expression is shown, from how its parts are: a line for each form, with two parts where there may be more.
use Rattle.std.proofs.Common.{◌≡◌, ℕ, List, [], ◌∷◌, ap, ◌∙◌}
use Rattle.ecf_lang.specs.declared.tree.Op.{Op}
use Rattle.ecf_lang.specs.declared.tree.Expr.{Expr, Expr-F}
use Rattle.ecf_lang.specs.declared.tree.Expr.TheVariants as expr
use Rattle.ecf_lang.specs.declared.tree.CallExpr.{CallExpr, CallExpr-F}
use Rattle.ecf_lang.specs.declared.tree.CallExpr.TheVariants as called
use Rattle.ecf_show.specs.Expressions.{Shown, ShownCall, shown, shown_call, expr_step, call_step}
use Rattle.ecf_show.specs.Forms.{shown_at, shown_called, shown_not, shown_product, shown_sum, shown_compare, shown_and, shown_or, shown_external}

pub sum : (a b : Expr) (o : Op) (sa sb : Shown) → shown a ≡ sa → shown b ≡ sb → shown (expr.Sum a ((o, b) ∷ [])) ≡ expr_step (Expr-F.Sum sa ((o, sb) ∷ []))
sum a b o sa sb first last =
    shown_sum a ((o, b) ∷ []) ∙ ap (λ s. expr_step (Expr-F.Sum s ((o, shown b) ∷ []))) first ∙ ap (λ s. expr_step (Expr-F.Sum sa ((o, s) ∷ []))) last

pub product : (a b : Expr) (o : Op) (sa sb : Shown) → shown a ≡ sa → shown b ≡ sb → shown (expr.Product a ((o, b) ∷ [])) ≡ expr_step (Expr-F.Product sa ((o, sb) ∷ []))
product a b o sa sb first last =
    shown_product a ((o, b) ∷ []) ∙ ap (λ s. expr_step (Expr-F.Product s ((o, shown b) ∷ []))) first ∙ ap (λ s. expr_step (Expr-F.Product sa ((o, s) ∷ []))) last

pub compare : (a b : Expr) (o : Op) (sa sb : Shown) → shown a ≡ sa → shown b ≡ sb → shown (expr.Compare a o b) ≡ expr_step (Expr-F.Compare sa o sb)
compare a b o sa sb first last = shown_compare a o b ∙ ap (λ s. expr_step (Expr-F.Compare s o (shown b))) first ∙ ap (λ s. expr_step (Expr-F.Compare sa o s)) last

pub both : (a b : Expr) (sa sb : Shown) → shown a ≡ sa → shown b ≡ sb → shown (expr.And (a ∷ b ∷ [])) ≡ expr_step (Expr-F.And (sa ∷ sb ∷ []))
both a b sa sb first last = shown_and (a ∷ b ∷ []) ∙ ap (λ s. expr_step (Expr-F.And (s ∷ shown b ∷ []))) first ∙ ap (λ s. expr_step (Expr-F.And (sa ∷ s ∷ []))) last

pub either : (a b : Expr) (sa sb : Shown) → shown a ≡ sa → shown b ≡ sb → shown (expr.Or (a ∷ b ∷ [])) ≡ expr_step (Expr-F.Or (sa ∷ sb ∷ []))
either a b sa sb first last = shown_or (a ∷ b ∷ []) ∙ ap (λ s. expr_step (Expr-F.Or (s ∷ shown b ∷ []))) first ∙ ap (λ s. expr_step (Expr-F.Or (sa ∷ s ∷ []))) last

pub negation : (at : ℕ) (a : Expr) (sa : Shown) → shown a ≡ sa → shown (expr.Not at a) ≡ expr_step (Expr-F.Not at sa)
negation at a sa inner = shown_not at a ∙ ap (λ s. expr_step (Expr-F.Not at s)) inner

pub indexed : (at : ℕ) (name : List ℕ) (a : Expr) (sa : Shown) → shown a ≡ sa → shown (expr.At at name a) ≡ expr_step (Expr-F.At at name sa)
indexed at name a sa inner = shown_at at name a ∙ ap (λ s. expr_step (Expr-F.At at name s)) inner

pub call : (c : CallExpr) (sc : ShownCall) → shown_call c ≡ sc → shown (expr.Call c) ≡ expr_step (Expr-F.Call sc)
call c sc inner = shown_called c ∙ ap (λ s. expr_step (Expr-F.Call s)) inner

-- a call without arguments
pub bare : (at : ℕ) (a : Expr) (name_at : ℕ) (name : List ℕ) (sa : Shown) → shown a ≡ sa → shown_call (called.External at a name_at name []) ≡ call_step (CallExpr-F.External at sa name_at name [])
bare at a name_at name sa target = shown_external at a name_at name [] ∙ ap (λ s. call_step (CallExpr-F.External at s name_at name [])) target

-- a call of two arguments
pub with_two : (at : ℕ) (a : Expr) (name_at : ℕ) (name : List ℕ) (b c : Expr) (sa sb sc : Shown) → shown a ≡ sa → shown b ≡ sb → shown c ≡ sc
    → shown_call (called.External at a name_at name (b ∷ c ∷ [])) ≡ call_step (CallExpr-F.External at sa name_at name (sb ∷ sc ∷ []))
with_two at a name_at name b c sa sb sc target first last =
    shown_external at a name_at name (b ∷ c ∷ []) ∙ ap (λ s. call_step (CallExpr-F.External at s name_at name (shown b ∷ shown c ∷ []))) target
    ∙ ap (λ s. call_step (CallExpr-F.External at sa name_at name (s ∷ shown c ∷ []))) first ∙ ap (λ s. call_step (CallExpr-F.External at sa name_at name (sb ∷ s ∷ []))) last
