-- Small files with one fault each, and one without. Numbers are those of their tokens.
use Rattle.std.specs.Prelude.{◌≡◌, true, [], ◌∷◌, List, None, codes}
use Rattle.ecf_lang.specs.declared.tree.Ty.TheVariants.{Num, Addr}
use Rattle.ecf_lang.specs.declared.tree.Op.TheVariants.{Add}
use Rattle.ecf_lang.specs.declared.tree.Tree.{Tree}
use Rattle.ecf_lang.specs.declared.tree.Member.TheVariants.{Field, Map, Method}
use Rattle.ecf_lang.specs.declared.tree.Expr.TheVariants as expr
use Rattle.ecf_lang.specs.declared.tree.CallExpr.TheVariants as call
use Rattle.ecf_lang.specs.declared.tree.Stmt.{Stmt}
use Rattle.ecf_lang.specs.declared.tree.Stmt.TheVariants as stmt
use Rattle.ecf_lang.specs.declared.tree.Block.{roll-Block}
use Rattle.ecf_lang.specs.declared.typed.FieldKind.TheVariants.{Plain}
use Rattle.ecf_lang.specs.declared.typed.TypedExpr.TheVariants as typed
use Rattle.ecf_lang.specs.declared.typed.TypedStmt.{TypedStmt}
use Rattle.ecf_lang.specs.declared.typed.TypedStmt.TheVariants as does
use Rattle.ecf_lang.specs.declared.typed.TypedBlock.{roll-TypedBlock}
use Rattle.ecf_lang.specs.declared.typed.Typed.{Typed}
use Rattle.ecf_lang.specs.declared.typed.Place.TheVariants as place
use Rattle.ecf_faults.specs.declared.What.TheVariants.{TwoFields, TwoLocals, TwoSignatures, UnknownName, Misused, WrongArity, WrongType}
use Rattle.ecf_faults.specs.Expressions.{fault}
use Rattle.ecf_faults.specs.Declarations.{faults_of_tree, numbered_form}

-- object A { num n; method go(): num { BODY } }, whose body begins at token 13
abbrev pub contract : List Stmt → Tree
contract body = record {
  objects = (record {
    at = 1;
    name = codes "A";
    members =
        Field 4 (codes "n") Num None
        ∷ Method 7 (codes "go") [] Num (roll-Block (record { stmts = body }))
        ∷ [];
  }) ∷ [];
}

-- return m;
abbrev pub UnknownNameCase : Type 0
UnknownNameCase = faults_of_tree (contract (stmt.Return (expr.Name 14 (codes "m")) ∷ [])) ≡ fault 14 UnknownName ∷ []

-- let x: num = n; let x: num = 1;
abbrev pub TwoLocalsCase : Type 0
TwoLocalsCase =
    faults_of_tree (contract (stmt.Let 14 (codes "x") Num (expr.Name 18 (codes "n")) ∷ stmt.Let 21 (codes "x") Num (expr.Number 25 1) ∷ []))
    ≡ fault 21 TwoLocals ∷ []

-- return n + true;
abbrev pub WrongTypeCase : Type 0
WrongTypeCase =
    faults_of_tree (contract (stmt.Return (expr.Sum (expr.Name 14 (codes "n")) ((Add, expr.Flag 16 true) ∷ [])) ∷ [])) ≡ fault 16 WrongType ∷ []

-- return self.go(n);
abbrev pub WrongArityCase : Type 0
WrongArityCase =
    faults_of_tree (contract (stmt.Return (expr.Call (call.Internal 14 16 (codes "go") (expr.Name 18 (codes "n") ∷ []))) ∷ [])) ≡ fault 16 WrongArity ∷ []

-- let x: num = n; while true { let y: num = x; } let y: num = x; return y;
abbrev pub sound : List Stmt
sound =
    stmt.Let 14 (codes "x") Num (expr.Name 18 (codes "n"))
    ∷ stmt.While (expr.Flag 21 true) (roll-Block (record { stmts = stmt.Let 24 (codes "y") Num (expr.Name 28 (codes "x")) ∷ [] }))
    ∷ stmt.Let 32 (codes "y") Num (expr.Name 36 (codes "x"))
    ∷ stmt.Return (expr.Name 39 (codes "y"))
    ∷ []

abbrev pub sound_body : List TypedStmt
sound_body =
    does.Let 0 Num (typed.Name (place.Plain 0))
    ∷ does.While (typed.Flag true) (roll-TypedBlock (record { stmts = does.Let 1 Num (typed.Name (place.Local 0)) ∷ [] }))
    ∷ does.Let 2 Num (typed.Name (place.Local 0))
    ∷ does.Return (typed.Name (place.Local 2))
    ∷ []

abbrev pub sound_form : Typed
sound_form = record {
  objects = (record {
    name = codes "A";
    fields = (record { name = codes "n"; kind = Plain Num; first = [] }) ∷ [];
    methods = (record { name = 0; locals = 3; body = roll-TypedBlock (record { stmts = sound_body }) }) ∷ [];
  }) ∷ [];
  names = codes "go" ∷ [];
  signatures = (record { params = []; answer = Num }) ∷ [];
}

abbrev pub SoundCase : Type 0
SoundCase = (faults_of_tree (contract sound) ≡ []) × (numbered_form (contract sound) ≡ sound_form)

-- object M { num v; }
-- object A {
--   map M: num -> num; num x; map x: num -> num; map y: num -> num; num y;
--   method f(): num { let q: addr = M; M = here; x[1] = 2; y = 1; return x; }
-- }
abbrev pub one_name : Tree
one_name = record {
  objects =
      (record { at = 1; name = codes "M"; members = Field 4 (codes "v") Num None ∷ [] })
      ∷ (record {
        at = 8;
        name = codes "A";
        members =
            Map 11 (codes "M") Num Num []
            ∷ Field 18 (codes "x") Num None
            ∷ Map 21 (codes "x") Num Num []
            ∷ Map 28 (codes "y") Num Num []
            ∷ Field 35 (codes "y") Num None
            ∷ Method 38 (codes "f") [] Num (roll-Block (record {
              stmts =
                  stmt.Let 45 (codes "q") Addr (expr.Name 49 (codes "M"))
                  ∷ stmt.Set 51 (codes "M") (expr.Here 53)
                  ∷ stmt.SetAt 55 (codes "x") (expr.Number 57 1) (expr.Number 60 2)
                  ∷ stmt.Set 62 (codes "y") (expr.Number 64 1)
                  ∷ stmt.Return (expr.Name 67 (codes "x"))
                  ∷ [];
            }))
            ∷ [];
      })
      ∷ [];
}

-- Of a field and a map of one name the first counts, with an index and without. A name that is an object and a map of the own
-- object is the object in an expression, and nothing that can be set.
abbrev pub OneNameCase : Type 0
OneNameCase =
    faults_of_tree one_name ≡ fault 21 TwoFields ∷ fault 35 TwoFields ∷ fault 51 Misused ∷ fault 55 Misused ∷ fault 62 Misused ∷ []

-- object A { method m(): num { } }
-- object B { method h(): num { return self.m(1); } method m(k: num): num { return k; } }
abbrev pub two_signatures : Tree
two_signatures = record {
  objects =
      (record { at = 1; name = codes "A"; members = Method 4 (codes "m") [] Num (roll-Block (record { stmts = [] })) ∷ [] })
      ∷ (record {
        at = 13;
        name = codes "B";
        members =
            Method 16 (codes "h") [] Num (roll-Block (record {
              stmts = stmt.Return (expr.Call (call.Internal 23 25 (codes "m") (expr.Number 27 1 ∷ []))) ∷ [];
            }))
            ∷ Method 32 (codes "m") ((record { at = 34; name = codes "k"; ty = Num }) ∷ []) Num (roll-Block (record {
              stmts = stmt.Return (expr.Name 42 (codes "k")) ∷ [];
            }))
            ∷ [];
      })
      ∷ [];
}

-- a call is tested against the first method of its name in the file, also where the own object has another
abbrev pub FirstSignatureCase : Type 0
FirstSignatureCase = faults_of_tree two_signatures ≡ fault 25 WrongArity ∷ fault 32 TwoSignatures ∷ []
