-- A file into which the body of a method is put. Numbers are those of tokens.
use Rattle.std.specs.Prelude.{◌≡◌, true, [], ◌∷◌, List, None, codes}
use Rattle.ecf_lang.specs.declared.tree.Ty.TheVariants.{Num, Flag}
use Rattle.ecf_lang.specs.declared.tree.Tree.{Tree}
use Rattle.ecf_lang.specs.declared.tree.ObjectDecl.{ObjectDecl}
use Rattle.ecf_lang.specs.declared.tree.Member.TheVariants.{Field, Map, Method}
use Rattle.ecf_lang.specs.declared.tree.Expr.TheVariants as expr
use Rattle.ecf_lang.specs.declared.tree.Stmt.{Stmt}
use Rattle.ecf_lang.specs.declared.tree.Stmt.TheVariants as stmt
use Rattle.ecf_lang.specs.declared.tree.Block.{Block, roll-Block}
use Rattle.ecf_faults.specs.declared.Fault.{Fault}
use Rattle.ecf_faults.specs.Declarations.{faults_of_tree}

abbrev pub block : List Stmt → Block
block body = roll-Block (record { stmts = body })

-- object B { method far(k: num): flag { return true; } }
abbrev pub object_b : ObjectDecl
object_b = record {
  at = 1;
  name = codes "B";
  members = Method 4 (codes "far") ((record { at = 6; name = codes "k"; ty = Num }) ∷ []) Flag (block (stmt.Return (expr.Flag 14 true) ∷ [])) ∷ [];
}

-- object A {
--   num n;
--   flag f;
--   map m: num -> flag;
--   method go(k: num): num { BODY }
-- }
abbrev pub object_a : List Stmt → ObjectDecl
object_a body = record {
  at = 19;
  name = codes "A";
  members =
      Field 22 (codes "n") Num None
      ∷ Field 25 (codes "f") Flag None
      ∷ Map 28 (codes "m") Num Flag []
      ∷ Method 35 (codes "go") ((record { at = 37; name = codes "k"; ty = Num }) ∷ []) Num (block body)
      ∷ [];
}

-- the file of both; the body begins at token 44
abbrev pub with_body : List Stmt → Tree
with_body body = record { objects = object_b ∷ object_a body ∷ [] }

-- with this body the file has these faults
abbrev pub Has : List Stmt → List Fault → Type 0
Has body faults = faults_of_tree (with_body body) ≡ faults
