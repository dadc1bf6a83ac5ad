-- Two files with many faults.
use Rattle.std.specs.Prelude.{◌≡◌, true, false, [], ◌∷◌, List, Some, None, codes}
use Rattle.std.specs.List.{fold}
use Rattle.ecf_lang.specs.declared.tree.Ty.TheVariants.{Num, Flag, Addr}
use Rattle.ecf_lang.specs.declared.tree.Op.TheVariants as op
use Rattle.ecf_lang.specs.declared.tree.Tree.{Tree}
use Rattle.ecf_lang.specs.declared.tree.Const.TheVariants as const
use Rattle.ecf_lang.specs.declared.tree.Member.TheVariants.{Field, Map, Method}
use Rattle.ecf_lang.specs.declared.tree.Expr.TheVariants as expr
use Rattle.ecf_lang.specs.declared.tree.CallExpr.TheVariants as call
use Rattle.ecf_lang.specs.declared.tree.Stmt.TheVariants as stmt
use Rattle.ecf_lang.specs.declared.tree.Block.{roll-Block}
use Rattle.ecf_faults.specs.declared.Fault.{Fault}
use Rattle.ecf_faults.specs.declared.What.TheVariants as what
use Rattle.ecf_faults.specs.Expressions.{fault}
use Rattle.ecf_faults.specs.Least.{precedes}
use Rattle.ecf_faults.specs.Declarations.{faults_of_tree}
use Rattle.std.specs.Prelude.{if◌then◌else◌}

-- a fault at its place among others
abbrev pub with_fault : List Fault → Fault → List Fault
with_fault [] new = new ∷ []
with_fault (f ∷ fs) new = if precedes new f then new ∷ f ∷ fs else f ∷ with_fault fs new

-- faults in their order
abbrev pub in_order : List Fault → List Fault
in_order = fold with_fault []

-- object A { num n; map m: num -> addr = {1: A, 2: B, 1: A}; flag n; method go(k: num, k: flag): num { n[1] = k; m
--   = 2; call A.gone(k); let t: num = try here.go(1); return self.up(); } method go(k: num): flag { return m[true]
--   == here && n < m[2]; } }
abbrev pub one_object : Tree
one_object = record {
  objects = ((record {
    at = 1;
    name = (codes "A");
    members =
        (Field 4 (codes "n") Num None
        ∷ Map 7 (codes "m") Num Addr (((const.Number 14 1), (const.Name 16 (codes "A"))) ∷ ((const.Number 18 2), (const.Name 20 (codes "B"))) ∷ ((const.Number 22 1), (const.Name 24 (codes "A"))) ∷ [])
        ∷ Field 28 (codes "n") Flag None
        ∷ Method 31 (codes "go") ((record { at = 33; name = (codes "k"); ty = Num }) ∷ (record { at = 37; name = (codes "k"); ty = Flag }) ∷ []) Num (roll-Block (record {
          stmts =
              (stmt.SetAt 44 (codes "n") (expr.Number 46 1) (expr.Name 49 (codes "k"))
              ∷ stmt.Set 51 (codes "m") (expr.Number 53 2)
              ∷ stmt.Do (call.External 55 (expr.Name 56 (codes "A")) 58 (codes "gone") ((expr.Name 60 (codes "k")) ∷ []))
              ∷ stmt.Try 64 (codes "t") Num (call.External 68 (expr.Here 69) 71 (codes "go") ((expr.Number 73 1) ∷ []))
              ∷ stmt.Return (expr.Call (call.Internal 77 79 (codes "up") ([]))) ∷ []);
        }))
        ∷ Method 85 (codes "go") ((record { at = 87; name = (codes "k"); ty = Num }) ∷ []) Flag (roll-Block (record {
          stmts =
              (stmt.Return (expr.And ((expr.Compare (expr.At 95 (codes "m") (expr.Flag 97 true)) op.Eq (expr.Here 100)) ∷ (expr.Compare (expr.Name 102 (codes "n")) op.Lt (expr.At 104 (codes "m") (expr.Number 106 2))) ∷ [])) ∷ []);
        })) ∷ []);
  }) ∷ []);
}

abbrev pub OneObjectCase : Type 0
OneObjectCase = in_order (faults_of_tree one_object) ≡
    (fault 20 what.UnknownName
    ∷ fault 22 what.TwoKeys
    ∷ fault 28 what.TwoFields
    ∷ fault 37 what.TwoLocals
    ∷ fault 44 what.Misused
    ∷ fault 51 what.Misused
    ∷ fault 58 what.UnknownMethod
    ∷ fault 68 what.WrongType
    ∷ fault 71 what.WrongArity
    ∷ fault 79 what.UnknownMethod
    ∷ fault 85 what.TwoMethods
    ∷ fault 85 what.TwoSignatures
    ∷ fault 97 what.WrongType
    ∷ fault 104 what.WrongType ∷ [])

--   object A { map f: flag -> num = {true: 1, 1: 2, false: 3, true: A}; num v = A; method a(x: addr): num { if x ==
--   A { let y: num = 1; v = y; } else if !v { let y: flag = true; A = here; } else { while y { let x: num = 2; } }
--   let y: num = f[v]; call x.a(y, 2) ; do_it = y * true; return self.b() + call y.a(here); } } object A { method
--   a(y: addr): num { revert here; } method b(): num { return v; } }
abbrev pub two_objects : Tree
two_objects = record {
  objects = ((record {
    at = 1;
    name = (codes "A");
    members =
        (Map 4 (codes "f") Flag Num (((const.Flag 11 true), (const.Number 13 1)) ∷ ((const.Number 15 1), (const.Number 17 2)) ∷ ((const.Flag 19 false), (const.Number 21 3)) ∷ ((const.Flag 23 true), (const.Name 25 (codes "A"))) ∷ [])
        ∷ Field 29 (codes "v") Num (Some (const.Name 31 (codes "A")))
        ∷ Method 34 (codes "a") ((record { at = 36; name = (codes "x"); ty = Addr }) ∷ []) Num (roll-Block (record {
          stmts =
              (stmt.If ((
                (expr.Compare (expr.Name 44 (codes "x")) op.Eq (expr.Name 46 (codes "A"))),
                (roll-Block (record {
                  stmts =
                      (stmt.Let 49 (codes "y") Num (expr.Number 53 1)
                      ∷ stmt.Set 55 (codes "v") (expr.Name 57 (codes "y")) ∷ []);
                })),
              ) ∷ (
                (expr.Not 62 (expr.Name 63 (codes "v"))),
                (roll-Block (record {
                  stmts =
                      (stmt.Let 66 (codes "y") Flag (expr.Flag 70 true)
                      ∷ stmt.Set 72 (codes "A") (expr.Here 74) ∷ []);
                })),
              ) ∷ []) (Some (roll-Block (record {
                stmts =
                    (stmt.While (expr.Name 80 (codes "y")) (roll-Block (record {
                      stmts =
                          (stmt.Let 83 (codes "x") Num (expr.Number 87 2) ∷ []);
                    })) ∷ []);
              })))
              ∷ stmt.Let 92 (codes "y") Num (expr.At 96 (codes "f") (expr.Name 98 (codes "v")))
              ∷ stmt.Do (call.External 101 (expr.Name 102 (codes "x")) 104 (codes "a") ((expr.Name 106 (codes "y")) ∷ (expr.Number 108 2) ∷ []))
              ∷ stmt.Set 111 (codes "do_it") (expr.Product (expr.Name 113 (codes "y")) ((op.Mul, (expr.Flag 115 true)) ∷ []))
              ∷ stmt.Return (expr.Sum (expr.Call (call.Internal 118 120 (codes "b") ([]))) ((op.Add, (expr.Call (call.External 124 (expr.Name 125 (codes "y")) 127 (codes "a") ((expr.Here 129) ∷ [])))) ∷ [])) ∷ []);
        })) ∷ []);
  }) ∷ (record {
    at = 135;
    name = (codes "A");
    members =
        (Method 138 (codes "a") ((record { at = 140; name = (codes "y"); ty = Addr }) ∷ []) Num (roll-Block (record {
          stmts =
              (stmt.Revert (expr.Here 148) ∷ []);
        }))
        ∷ Method 152 (codes "b") ([]) Num (roll-Block (record {
          stmts =
              (stmt.Return (expr.Name 159 (codes "v")) ∷ []);
        })) ∷ []);
  }) ∷ []);
}

abbrev pub TwoObjectsCase : Type 0
TwoObjectsCase = in_order (faults_of_tree two_objects) ≡
    (fault 15 what.WrongType
    ∷ fault 23 what.TwoKeys
    ∷ fault 25 what.WrongType
    ∷ fault 31 what.WrongType
    ∷ fault 63 what.WrongType
    ∷ fault 72 what.Misused
    ∷ fault 80 what.UnknownName
    ∷ fault 83 what.TwoLocals
    ∷ fault 98 what.WrongType
    ∷ fault 104 what.WrongArity
    ∷ fault 111 what.UnknownName
    ∷ fault 115 what.WrongType
    ∷ fault 120 what.UnknownMethod
    ∷ fault 125 what.WrongType
    ∷ fault 135 what.TwoObjects
    ∷ fault 148 what.WrongType
    ∷ fault 159 what.UnknownName ∷ [])
