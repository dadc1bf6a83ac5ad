-- Expressions worked out: their canonical texts, by computation. They pin how tightly each form holds together.
use Rattle.std.specs.Prelude.{◌≡◌, ℕ, true, List, [], ◌∷◌, codes}
use Rattle.ecf_lang.specs.declared.tree.Op.TheVariants.{Add, Sub, Mul, Div, Rem, Eq, Lt}
use Rattle.ecf_lang.specs.declared.tree.Expr.{Expr}
use Rattle.ecf_lang.specs.declared.tree.Expr.TheVariants as expr
use Rattle.ecf_lang.specs.declared.tree.CallExpr.TheVariants as called
use Rattle.ecf_show.specs.Marks.{text_of}
use Rattle.ecf_show.specs.Expressions.{expr_marks}

-- an expression has this text
abbrev pub IsShownAs : Expr → List ℕ → Type 0
IsShownAs e text = text_of (expr_marks e) ≡ text

abbrev pub name : List ℕ → Expr
name bytes = expr.Name 0 bytes

abbrev pub number : ℕ → Expr
number value = expr.Number 0 value

abbrev pub negated : Expr → Expr
negated e = expr.Not 0 e

abbrev pub a : Expr
a = name (codes "a")

abbrev pub b : Expr
b = name (codes "b")

abbrev pub c : Expr
c = name (codes "c")

abbrev pub d : Expr
d = name (codes "d")

-- self.f()
abbrev pub own_call : Expr
own_call = expr.Call (called.Internal 0 0 (codes "f") [])

-- each form inside the one that holds together next more tightly, and inside itself
pub record WorkedExpressions : Type 0 where
  pub sum_in_product : IsShownAs (expr.Product (expr.Sum a ((Sub, b) ∷ [])) ((Mul, negated (expr.Product c ((Rem, d) ∷ []))) ∷ [])) (codes "(a - b) * !(c % d)")
  pub product_in_sum : IsShownAs (expr.Sum (expr.Product (negated a) ((Div, b) ∷ [])) ((Sub, expr.Product c ((Mul, d) ∷ [])) ∷ [])) (codes "!a / b - c * d")
  pub in_itself : IsShownAs
      (expr.Sum (expr.Sum a ((Add, b) ∷ [])) ((Sub, expr.Sum (expr.Product a ((Mul, expr.Product b ((Mul, c) ∷ [])) ∷ [])) ((Sub, negated (negated d)) ∷ [])) ∷ []))
      (codes "(a + b) - (a * (b * c) - !(!d))")
  pub compared : IsShownAs (expr.Compare (expr.Sum a ((Add, b) ∷ [])) Lt (expr.Compare c Eq d)) (codes "a + b < (c == d)")
  pub sum_of_comparison : IsShownAs (expr.Sum (expr.Compare a Lt b) ((Add, number 7) ∷ [])) (codes "(a < b) + 7")
  pub disjunction : IsShownAs
      (expr.Or (expr.And (expr.Compare a Eq b ∷ expr.And (c ∷ d ∷ []) ∷ []) ∷ expr.Or (a ∷ expr.Flag 0 true ∷ []) ∷ []))
      (codes "a == b && (c && d) || (a || true)")
  pub conjunction : IsShownAs (expr.And (expr.Or (a ∷ b ∷ []) ∷ negated (expr.Or (c ∷ d ∷ [])) ∷ [])) (codes "(a || b) && !(c || d)")
  pub comparison_of_conjunction : IsShownAs (expr.Compare (expr.And (a ∷ b ∷ [])) Eq (negated own_call)) (codes "(a && b) == !self.f()")
  pub target : IsShownAs
      (expr.Call (called.External 0 own_call 0 (codes "go") (expr.Call (called.External 0 (expr.Here 0) 0 (codes "on") []) ∷ expr.Or (a ∷ b ∷ []) ∷ [])))
      (codes "call (self.f()).go(call here.on(), a || b)")
  pub index : IsShownAs
      (expr.Call (called.External 0 (expr.At 0 (codes "m") (expr.Sum a ((Sub, number 1) ∷ []))) 0 (codes "go") []))
      (codes "call m[a - 1].go()")
