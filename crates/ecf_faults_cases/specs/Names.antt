-- Bodies with names that aren't found, that are misused, or that are declared twice.
use Rattle.std.specs.Prelude.{true, [], ◌∷◌, Some, None, codes}
use Rattle.ecf_lang.specs.declared.tree.Ty.TheVariants.{Num, Flag}
use Rattle.ecf_lang.specs.declared.tree.Op.TheVariants as op
use Rattle.ecf_lang.specs.declared.tree.Expr.TheVariants as expr
use Rattle.ecf_lang.specs.declared.tree.CallExpr.TheVariants as call
use Rattle.ecf_lang.specs.declared.tree.Stmt.TheVariants as stmt
use Rattle.ecf_faults.specs.declared.What.TheVariants.{TwoLocals, UnknownName, Misused, UnknownMethod, WrongArity}
use Rattle.ecf_faults.specs.Expressions.{fault}
use Rattle.ecf_faults_cases.specs.Bodies.{block, Has}

-- a name that isn't found, in each place of a body where a name may stand; nothing is required of it
pub record UnknownNames : Type 0 where
  -- return gone + 1;
  pub in_expression : Has (stmt.Return (expr.Sum (expr.Name 45 (codes "gone")) ((op.Add, expr.Number 47 1) ∷ [])) ∷ []) (fault 45 UnknownName ∷ [])
  -- f = gone[1];
  pub with_index : Has (stmt.Set 44 (codes "f") (expr.At 46 (codes "gone") (expr.Number 48 1)) ∷ []) (fault 46 UnknownName ∷ [])
  -- gone = true;
  pub assigned : Has (stmt.Set 44 (codes "gone") (expr.Flag 46 true) ∷ []) (fault 44 UnknownName ∷ [])
  -- gone[f] = 1;
  pub assigned_with_index : Has (stmt.SetAt 44 (codes "gone") (expr.Name 46 (codes "f")) (expr.Number 49 1) ∷ []) (fault 44 UnknownName ∷ [])

-- a map without an index, an index on a plain field, and an assignment to an object
pub record MisusedNames : Type 0 where
  -- return m;
  pub map : Has (stmt.Return (expr.Name 45 (codes "m")) ∷ []) (fault 45 Misused ∷ [])
  -- m = 1;
  pub map_assigned : Has (stmt.Set 44 (codes "m") (expr.Number 46 1) ∷ []) (fault 44 Misused ∷ [])
  -- return n[1];
  pub field : Has (stmt.Return (expr.At 45 (codes "n") (expr.Number 47 1)) ∷ []) (fault 45 Misused ∷ [])
  -- n[1] = true;
  pub field_assigned : Has (stmt.SetAt 44 (codes "n") (expr.Number 46 1) (expr.Flag 49 true) ∷ []) (fault 44 Misused ∷ [])
  -- B = 1;
  pub object_assigned : Has (stmt.Set 44 (codes "B") (expr.Number 46 1) ∷ []) (fault 44 Misused ∷ [])

-- a method that the own object hasn't, and one that no object has; their arguments are looked at all the same
pub record UnknownMethods : Type 0 where
  -- return self.far(1);
  pub own : Has (stmt.Return (expr.Call (call.Internal 45 47 (codes "far") (expr.Number 49 1 ∷ []))) ∷ []) (fault 47 UnknownMethod ∷ [])
  -- return call B.gone(gone);
  pub any :
      Has
      (stmt.Return (expr.Call (call.External 45 (expr.Name 46 (codes "B")) 48 (codes "gone") (expr.Name 50 (codes "gone") ∷ [])))
      ∷ [])
      (fault 48 UnknownMethod ∷ fault 50 UnknownName ∷ [])

-- another number of arguments, whose types are then not asked for
pub record WrongArities : Type 0 where
  -- return self.go();
  pub own : Has (stmt.Return (expr.Call (call.Internal 45 47 (codes "go") [])) ∷ []) (fault 47 WrongArity ∷ [])
  -- call B.far(f, f);
  pub other :
      Has
      (stmt.Do (call.External 44 (expr.Name 45 (codes "B")) 47 (codes "far") (expr.Name 49 (codes "f") ∷ expr.Name 51 (codes "f") ∷ []))
      ∷ [])
      (fault 47 WrongArity ∷ [])

-- where a local is visible, and what its second declaration is
pub record Visibility : Type 0 where
  -- let x: num = x;
  pub not_in_its_own_let : Has (stmt.Let 45 (codes "x") Num (expr.Name 49 (codes "x")) ∷ []) (fault 49 UnknownName ∷ [])
  -- while f { let x: num = 1; } return x;
  pub not_behind_its_block :
      Has
      (stmt.While (expr.Name 45 (codes "f")) (block (stmt.Let 48 (codes "x") Num (expr.Number 52 1) ∷ []))
      ∷ stmt.Return (expr.Name 56 (codes "x"))
      ∷ [])
      (fault 56 UnknownName ∷ [])
  -- if f { let x: num = 1; } else if x { } else { x = 1; }
  pub not_in_other_arms :
      Has
      (stmt.If
      ((expr.Name 45 (codes "f"), block (stmt.Let 48 (codes "x") Num (expr.Number 52 1) ∷ []))
      ∷ (expr.Name 57 (codes "x"), block [])
      ∷ [])
      (Some (block (stmt.Set 62 (codes "x") (expr.Number 64 1) ∷ [])))
      ∷ [])
      (fault 57 UnknownName ∷ fault 62 UnknownName ∷ [])
  -- let x: num = 1; if f { x = 2; } return x;
  pub in_blocks_behind :
      Has
      (stmt.Let 45 (codes "x") Num (expr.Number 49 1)
      ∷ stmt.If ((expr.Name 52 (codes "f"), block (stmt.Set 54 (codes "x") (expr.Number 56 2) ∷ [])) ∷ []) None
      ∷ stmt.Return (expr.Name 60 (codes "x"))
      ∷ [])
      []
  -- let k: flag = f; return k;
  pub first_counts :
      Has
      (stmt.Let 45 (codes "k") Flag (expr.Name 49 (codes "f"))
      ∷ stmt.Return (expr.Name 52 (codes "k"))
      ∷ [])
      (fault 45 TwoLocals ∷ [])
  -- while f { let x: num = 1; } while f { let x: flag = f; }
  pub again_in_another_block :
      Has
      (stmt.While (expr.Name 45 (codes "f")) (block (stmt.Let 48 (codes "x") Num (expr.Number 52 1) ∷ []))
      ∷ stmt.While (expr.Name 56 (codes "f")) (block (stmt.Let 59 (codes "x") Flag (expr.Name 63 (codes "f")) ∷ []))
      ∷ [])
      []
  -- let n: flag = f; n = true;
  pub before_fields : Has (stmt.Let 45 (codes "n") Flag (expr.Name 49 (codes "f")) ∷ stmt.Set 51 (codes "n") (expr.Flag 53 true) ∷ []) []
  -- let m: num = 1; f = m[m];
  pub no_map :
      Has
      (stmt.Let 45 (codes "m") Num (expr.Number 49 1)
      ∷ stmt.Set 51 (codes "f") (expr.At 53 (codes "m") (expr.Name 55 (codes "m")))
      ∷ [])
      []
