-- How large each form is.
use Rattle.std.proofs.Common.{◌≡◌, ℕ, ◌+◌, Bool, List, [], ◌∷◌, map, refl, ap, sym, ◌∙◌}
use Rattle.ecf_lang.specs.declared.tree.Op.{Op}
use Rattle.ecf_lang.specs.declared.typed.Place.{Place}
use Rattle.ecf_lang.specs.declared.typed.TypedExpr.{TypedExpr, TypedExpr-F, roll-TypedExpr, fold-roll-TypedExpr, map-TypedExpr}
use Rattle.ecf_lang.specs.declared.typed.TypedExpr.TheVariants as expr
use Rattle.ecf_lang.specs.declared.typed.TypedCall.{TypedCall, TypedCall-F, roll-TypedCall, fold-roll-TypedCall, map-TypedCall}
use Rattle.ecf_lang.specs.declared.typed.TypedCall.TheVariants as call
use Rattle.ecf_machine.specs.Load.{total_size, size_of, call_size, expr_step, call_step, parts_size, args_size}

total_size-map : {A B : Type 0} (h : B → ℕ) (f : A → B) (xs : List A) → total_size h (map f xs) ≡ total_size (λ x. h (f x)) xs
total_size-map h f [] = refl
total_size-map h f (x ∷ xs) = ap (λ n. h (f x) + n) (total_size-map h f xs)

size_roll : (e : TypedExpr-F TypedCall TypedExpr) → size_of (roll-TypedExpr e) ≡ expr_step (map-TypedExpr _ _ _ _ call_size size_of e)
unfolding size_of call_size
size_roll e = fold-roll-TypedExpr ℕ ℕ call_step expr_step e

call_roll : (c : TypedCall-F TypedCall TypedExpr) → call_size (roll-TypedCall c) ≡ call_step (map-TypedCall _ _ _ _ call_size size_of c)
unfolding size_of call_size
call_roll c = fold-roll-TypedCall ℕ ℕ call_step expr_step c

pub size_number : (v : ℕ) → size_of (expr.Number v) ≡ 2
size_number v = ap size_of (sym (expr.rolls-Number v)) ∙ size_roll _

pub size_flag : (b : Bool) → size_of (expr.Flag b) ≡ 2
size_flag b = ap size_of (sym (expr.rolls-Flag b)) ∙ size_roll _

pub size_here : size_of expr.Here ≡ 2
size_here = ap size_of (sym expr.rolls-Here) ∙ size_roll _

pub size_name : (place : Place) → size_of (expr.Name place) ≡ 2
size_name place = ap size_of (sym (expr.rolls-Name place)) ∙ size_roll _

pub size_at : (field : ℕ) (key : TypedExpr) → size_of (expr.At field key) ≡ size_of key + 2
size_at field key = ap size_of (sym (expr.rolls-At field key)) ∙ size_roll _

pub size_call : (c : TypedCall) → size_of (expr.Call c) ≡ call_size c + 1
size_call c = ap size_of (sym (expr.rolls-Call c)) ∙ size_roll _

pub size_not : (e : TypedExpr) → size_of (expr.Not e) ≡ size_of e + 2
size_not e = ap size_of (sym (expr.rolls-Not e)) ∙ size_roll _

pub size_sum : (first : TypedExpr) (rest : List (Op × TypedExpr)) → size_of (expr.Sum first rest) ≡ size_of first + parts_size rest + 4
size_sum first rest =
    ap size_of (sym (expr.rolls-Sum first rest)) ∙ size_roll _ ∙
    ap (λ n. size_of first + n + 4) (total_size-map (λ part. part.1 + 2) (λ p. (p.0, size_of p.1)) rest)

pub size_product : (first : TypedExpr) (rest : List (Op × TypedExpr)) → size_of (expr.Product first rest) ≡ size_of first + parts_size rest + 4
size_product first rest =
    ap size_of (sym (expr.rolls-Product first rest)) ∙ size_roll _ ∙
    ap (λ n. size_of first + n + 4) (total_size-map (λ part. part.1 + 2) (λ p. (p.0, size_of p.1)) rest)

pub size_compare : (left : TypedExpr) (op : Op) (right : TypedExpr) → size_of (expr.Compare left op right) ≡ size_of left + size_of right + 4
size_compare left op right = ap size_of (sym (expr.rolls-Compare left op right)) ∙ size_roll _

pub size_and : (parts : List TypedExpr) → size_of (expr.And parts) ≡ args_size parts + 4
size_and parts =
    ap size_of (sym (expr.rolls-And parts)) ∙ size_roll _ ∙ ap (λ n. n + 4) (total_size-map (λ part. part + 3) size_of parts)

pub size_or : (parts : List TypedExpr) → size_of (expr.Or parts) ≡ args_size parts + 4
size_or parts =
    ap size_of (sym (expr.rolls-Or parts)) ∙ size_roll _ ∙ ap (λ n. n + 4) (total_size-map (λ part. part + 3) size_of parts)

pub size_external : (target : TypedExpr) (name : ℕ) (args : List TypedExpr) → call_size (call.External target name args) ≡ size_of target + args_size args + 4
size_external target name args =
    ap call_size (sym (call.rolls-External target name args)) ∙ call_roll _ ∙ ap (λ n. size_of target + n + 4) (total_size-map (λ arg. arg + 3) size_of args)

pub size_internal : (name : ℕ) (args : List TypedExpr) → call_size (call.Internal name args) ≡ args_size args + 4
size_internal name args =
    ap call_size (sym (call.rolls-Internal name args)) ∙ call_roll _ ∙ ap (λ n. n + 4) (total_size-map (λ arg. arg + 3) size_of args)
