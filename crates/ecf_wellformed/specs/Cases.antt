-- A counter that is well formed, and one that isn't.
use Rattle.std.specs.Prelude.{true, [], ◌∷◌, codes}
use Rattle.ecf_lang.specs.declared.tree.Ty.TheVariants.{Num}
use Rattle.ecf_lang.specs.declared.tree.Op.TheVariants.{Add}
use Rattle.ecf_lang.specs.declared.typed.FieldKind.TheVariants as kind
use Rattle.ecf_lang.specs.declared.typed.Place.TheVariants as place
use Rattle.ecf_lang.specs.declared.typed.Assignee.TheVariants as assignee
use Rattle.ecf_lang.specs.declared.typed.Typed.{Typed}
use Rattle.ecf_lang.specs.declared.typed.TypedExpr.{TypedExpr}
use Rattle.ecf_lang.specs.declared.typed.TypedExpr.TheVariants as expr
use Rattle.ecf_lang.specs.declared.typed.TypedStmt.TheVariants as stmt
use Rattle.ecf_lang.specs.declared.typed.TypedBlock.{roll-TypedBlock}
use Rattle.ecf_wellformed.specs.WellFormed.{IsWellFormed}

-- object Counter {
--   num n;
--   method bump(): num {
--     n = STEP;
--     return n;
--   }
-- }
abbrev pub counter : TypedExpr → Typed
counter step = record {
  objects = (record {
    name = codes "Counter";
    fields = (record { name = codes "n"; kind = kind.Plain Num; first = [] }) ∷ [];
    methods = (record {
      name = 0;
      locals = 0;
      body = roll-TypedBlock (record { stmts = stmt.Set (assignee.Plain 0) step ∷ stmt.Return (expr.Name (place.Plain 0)) ∷ [] });
    }) ∷ [];
  }) ∷ [];
  names = codes "bump" ∷ [];
  signatures = (record { params = []; answer = Num }) ∷ [];
}

-- n + 1
abbrev pub one_more : TypedExpr
one_more = expr.Sum (expr.Name (place.Plain 0)) ((Add, expr.Number 1) ∷ [])

abbrev pub CounterIsWellFormed : Type 0
CounterIsWellFormed = IsWellFormed (counter one_more)

-- a flag is no number
abbrev pub FlagIsNoNumber : Type 0
FlagIsNoNumber = ¬ IsWellFormed (counter (expr.Flag true))
