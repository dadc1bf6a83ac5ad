-- Bodies in which something has another type than the one required: each place where a type is required.
use Rattle.std.specs.Prelude.{true, [], ◌∷◌, None, codes}
use Rattle.ecf_lang.specs.declared.tree.Ty.TheVariants.{Num, Flag}
use Rattle.ecf_lang.specs.declared.tree.Op.TheVariants as op
use Rattle.ecf_lang.specs.declared.tree.Expr.TheVariants as expr
use Rattle.ecf_lang.specs.declared.tree.CallExpr.TheVariants as call
use Rattle.ecf_lang.specs.declared.tree.Stmt.TheVariants as stmt
use Rattle.ecf_faults.specs.declared.What.TheVariants.{WrongType}
use Rattle.ecf_faults.specs.Expressions.{fault}
use Rattle.ecf_faults_cases.specs.Bodies.{block, Has}

-- operands
pub record Operands : Type 0 where
  -- return n * f;
  pub product : Has (stmt.Return (expr.Product (expr.Name 45 (codes "n")) ((op.Mul, expr.Name 47 (codes "f")) ∷ [])) ∷ []) (fault 47 WrongType ∷ [])
  -- return f - n - here;
  pub sum :
      Has
      (stmt.Return (expr.Sum (expr.Name 45 (codes "f")) ((op.Sub, expr.Name 47 (codes "n")) ∷ (op.Sub, expr.Here 49) ∷ []))
      ∷ [])
      (fault 45 WrongType ∷ fault 49 WrongType ∷ [])
  -- f = f < A;
  pub order :
      Has
      (stmt.Set 44 (codes "f") (expr.Compare (expr.Name 46 (codes "f")) op.Lt (expr.Name 48 (codes "A")))
      ∷ [])
      (fault 46 WrongType ∷ fault 48 WrongType ∷ [])
  -- f = A == n;
  pub equality :
      Has
      (stmt.Set 44 (codes "f") (expr.Compare (expr.Name 46 (codes "A")) op.Eq (expr.Name 48 (codes "n")))
      ∷ [])
      (fault 48 WrongType ∷ [])
  -- f = f != true;
  pub equal_flags : Has (stmt.Set 44 (codes "f") (expr.Compare (expr.Name 46 (codes "f")) op.Ne (expr.Flag 48 true)) ∷ []) []
  -- f = f && n;
  pub and : Has (stmt.Set 44 (codes "f") (expr.And (expr.Name 46 (codes "f") ∷ expr.Name 48 (codes "n") ∷ [])) ∷ []) (fault 48 WrongType ∷ [])
  -- f = n || f;
  pub or : Has (stmt.Set 44 (codes "f") (expr.Or (expr.Name 46 (codes "n") ∷ expr.Name 48 (codes "f") ∷ [])) ∷ []) (fault 46 WrongType ∷ [])
  -- f = !n;
  pub not : Has (stmt.Set 44 (codes "f") (expr.Not 46 (expr.Name 47 (codes "n"))) ∷ []) (fault 47 WrongType ∷ [])

-- indices, targets and arguments
pub record Parts : Type 0 where
  -- f = m[f];
  pub index : Has (stmt.Set 44 (codes "f") (expr.At 46 (codes "m") (expr.Name 48 (codes "f"))) ∷ []) (fault 48 WrongType ∷ [])
  -- call n.far(1);
  pub target : Has (stmt.Do (call.External 44 (expr.Name 45 (codes "n")) 47 (codes "far") (expr.Number 49 1 ∷ [])) ∷ []) (fault 45 WrongType ∷ [])
  -- call here.far(f);
  pub argument : Has (stmt.Do (call.External 44 (expr.Here 45) 47 (codes "far") (expr.Name 49 (codes "f") ∷ [])) ∷ []) (fault 49 WrongType ∷ [])
  -- self.go(self.go(f));
  pub inner_argument :
      Has
      (stmt.Do (call.Internal 44 46 (codes "go") (expr.Call (call.Internal 48 50 (codes "go") (expr.Name 52 (codes "f") ∷ [])) ∷ []))
      ∷ [])
      (fault 52 WrongType ∷ [])

-- values and conditions of statements; an expression without a token of its own has that of its first part
pub record Values : Type 0 where
  -- let x: flag = n + 1;
  pub let_ : Has (stmt.Let 45 (codes "x") Flag (expr.Sum (expr.Name 49 (codes "n")) ((op.Add, expr.Number 51 1) ∷ [])) ∷ []) (fault 49 WrongType ∷ [])
  -- let x: num = try B.far(1);
  pub try_ :
      Has
      (stmt.Try 45 (codes "x") Num (call.External 49 (expr.Name 50 (codes "B")) 52 (codes "far") (expr.Number 54 1 ∷ []))
      ∷ [])
      (fault 49 WrongType ∷ [])
  -- let x: flag = try here.go(1); f = x;
  pub tried :
      Has
      (stmt.Try 45 (codes "x") Flag (call.External 49 (expr.Here 50) 52 (codes "go") (expr.Number 54 1 ∷ []))
      ∷ stmt.Set 57 (codes "f") (expr.Name 59 (codes "x"))
      ∷ [])
      []
  -- k = f;
  pub local : Has (stmt.Set 44 (codes "k") (expr.Name 46 (codes "f")) ∷ []) (fault 46 WrongType ∷ [])
  -- f = k;
  pub field : Has (stmt.Set 44 (codes "f") (expr.Name 46 (codes "k")) ∷ []) (fault 46 WrongType ∷ [])
  -- m[f] = n;
  pub map : Has (stmt.SetAt 44 (codes "m") (expr.Name 46 (codes "f")) (expr.Name 49 (codes "n")) ∷ []) (fault 46 WrongType ∷ fault 49 WrongType ∷ [])
  -- if n { } else if f { } else if here { }
  pub arms :
      Has
      (stmt.If ((expr.Name 45 (codes "n"), block []) ∷ (expr.Name 50 (codes "f"), block []) ∷ (expr.Here 55, block []) ∷ []) None
      ∷ [])
      (fault 45 WrongType ∷ fault 55 WrongType ∷ [])
  -- while n { }
  pub while : Has (stmt.While (expr.Name 45 (codes "n")) (block []) ∷ []) (fault 45 WrongType ∷ [])
  -- return call B.far(1);
  pub return_ :
      Has
      (stmt.Return (expr.Call (call.External 45 (expr.Name 46 (codes "B")) 48 (codes "far") (expr.Number 50 1 ∷ [])))
      ∷ [])
      (fault 45 WrongType ∷ [])
  -- revert f;
  pub revert : Has (stmt.Revert (expr.Name 45 (codes "f")) ∷ []) (fault 45 WrongType ∷ [])
