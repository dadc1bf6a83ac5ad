-- Files with declarations and initial values alone. Numbers are those of tokens.
use Rattle.std.specs.Prelude.{◌≡◌, true, false, [], ◌∷◌, List, Some, None, codes, ℕ}
use Rattle.ecf_lang.specs.declared.tree.Ty.{Ty}
use Rattle.ecf_lang.specs.declared.tree.Ty.TheVariants.{Num, Flag, Addr}
use Rattle.ecf_lang.specs.declared.tree.Tree.{Tree}
use Rattle.ecf_lang.specs.declared.tree.Const.{Const}
use Rattle.ecf_lang.specs.declared.tree.Const.TheVariants as const
use Rattle.ecf_lang.specs.declared.tree.Param.{Param}
use Rattle.ecf_lang.specs.declared.tree.Member.{Member}
use Rattle.ecf_lang.specs.declared.tree.Member.TheVariants.{Field, Map, Method}
use Rattle.ecf_faults.specs.declared.Fault.{Fault}
use Rattle.ecf_faults.specs.declared.What.TheVariants.{TwoObjects, TwoFields, TwoMethods, TwoLocals, TwoSignatures, TwoKeys, UnknownName, WrongType}
use Rattle.ecf_faults.specs.Expressions.{fault}
use Rattle.ecf_faults.specs.Declarations.{faults_of_tree}
use Rattle.ecf_faults_cases.specs.Bodies.{block}

-- object A { MEMBERS }
-- The members begin at token 3.
abbrev pub object_of : List Member → Tree
object_of members = record { objects = (record { at = 1; name = codes "A"; members = members }) ∷ [] }

-- NAME: TYPE
abbrev pub param : ℕ → List ℕ → Ty → Param
param at name ty = record { at = at; name = name; ty = ty }

-- an object of these members has these faults
abbrev pub ObjectHas : List Member → List Fault → Type 0
ObjectHas members faults = faults_of_tree (object_of members) ≡ faults

-- names that are declared twice
pub record Repeated : Type 0 where
  -- object A { } object B { } object A { } object A { }
  pub objects :
      faults_of_tree (record {
        objects =
            (record { at = 1; name = codes "A"; members = [] })
            ∷ (record { at = 5; name = codes "B"; members = [] })
            ∷ (record { at = 9; name = codes "A"; members = [] })
            ∷ (record { at = 13; name = codes "A"; members = [] })
            ∷ [];
      })
      ≡ fault 9 TwoObjects ∷ fault 13 TwoObjects ∷ []
  -- num n; method n(): num { } map n: num -> num; flag n;
  pub fields :
      ObjectHas
      (Field 4 (codes "n") Num None
      ∷ Method 7 (codes "n") [] Num (block [])
      ∷ Map 15 (codes "n") Num Num []
      ∷ Field 22 (codes "n") Flag None
      ∷ [])
      (fault 15 TwoFields ∷ fault 22 TwoFields ∷ [])
  -- method m(): num { } num m; method m(): num { }
  pub methods :
      ObjectHas
      (Method 4 (codes "m") [] Num (block [])
      ∷ Field 12 (codes "m") Num None
      ∷ Method 15 (codes "m") [] Num (block [])
      ∷ [])
      (fault 15 TwoMethods ∷ [])
  -- method m(k: num, j: num, k: flag, k: num): num { }
  pub parameters :
      ObjectHas
      (Method 4 (codes "m") (param 6 (codes "k") Num ∷ param 10 (codes "j") Num ∷ param 14 (codes "k") Flag ∷ param 18 (codes "k") Num ∷ []) Num (block []) ∷ [])
      (fault 14 TwoLocals ∷ fault 18 TwoLocals ∷ [])

-- object A { method m(k: num): num { } } object B { method m(PARAMS): ANSWER { } }
abbrev pub two_methods : List Param → Ty → Tree
two_methods params answer = record {
  objects =
      (record { at = 1; name = codes "A"; members = Method 4 (codes "m") (param 6 (codes "k") Num ∷ []) Num (block []) ∷ [] })
      ∷ (record { at = 16; name = codes "B"; members = Method 19 (codes "m") params answer (block []) ∷ [] })
      ∷ [];
}

-- methods of one name and other types; names of parameters don't matter
pub record Signatures : Type 0 where
  pub same : faults_of_tree (two_methods (param 21 (codes "j") Num ∷ []) Num) ≡ []
  pub other_answer : faults_of_tree (two_methods (param 21 (codes "k") Num ∷ []) Flag) ≡ fault 19 TwoSignatures ∷ []
  pub other_parameter : faults_of_tree (two_methods (param 21 (codes "k") Addr ∷ []) Num) ≡ fault 19 TwoSignatures ∷ []
  pub fewer : faults_of_tree (two_methods [] Num) ≡ fault 19 TwoSignatures ∷ []
  pub more : faults_of_tree (two_methods (param 21 (codes "k") Num ∷ param 25 (codes "j") Num ∷ []) Num) ≡ fault 19 TwoSignatures ∷ []

-- a map m of these types with these initial keys and values has these faults
abbrev pub MapHas : Ty → Ty → List (Const × Const) → List Fault → Type 0
MapHas key value first faults = ObjectHas (Map 4 (codes "m") key value first ∷ []) faults

-- keys of a map are compared by their values, where both have the right type
pub record Keys : Type 0 where
  -- map m: num -> num = {1: 1, 2: 1, 01: 2, 1: 3};
  pub numbers :
      MapHas Num Num
      ((const.Number 11 1, const.Number 13 1)
      ∷ (const.Number 15 2, const.Number 17 1)
      ∷ (const.Number 19 1, const.Number 21 2)
      ∷ (const.Number 23 1, const.Number 25 3)
      ∷ [])
      (fault 19 TwoKeys ∷ fault 23 TwoKeys ∷ [])
  -- map m: flag -> num = {true: 1, 1: 1, false: 1, true: 1};
  pub flags :
      MapHas Flag Num
      ((const.Flag 11 true, const.Number 13 1)
      ∷ (const.Number 15 1, const.Number 17 1)
      ∷ (const.Flag 19 false, const.Number 21 1)
      ∷ (const.Flag 23 true, const.Number 25 1)
      ∷ [])
      (fault 15 WrongType ∷ fault 23 TwoKeys ∷ [])
  -- map m: num -> num = {true: 1, true: 1, A: 1, A: 1};
  pub of_other_types :
      MapHas Num Num
      ((const.Flag 11 true, const.Number 13 1)
      ∷ (const.Flag 15 true, const.Number 17 1)
      ∷ (const.Name 19 (codes "A"), const.Number 21 1)
      ∷ (const.Name 23 (codes "A"), const.Number 25 1)
      ∷ [])
      (fault 11 WrongType ∷ fault 15 WrongType ∷ fault 19 WrongType ∷ fault 23 WrongType ∷ [])
  -- map m: addr -> num = {gone: 1, gone: 1, A: 1, A: 1};
  pub objects :
      MapHas Addr Num
      ((const.Name 11 (codes "gone"), const.Number 13 1)
      ∷ (const.Name 15 (codes "gone"), const.Number 17 1)
      ∷ (const.Name 19 (codes "A"), const.Number 21 1)
      ∷ (const.Name 23 (codes "A"), const.Number 25 1)
      ∷ [])
      (fault 11 UnknownName ∷ fault 15 UnknownName ∷ fault 23 TwoKeys ∷ [])

-- initial values of fields and maps; a name among them is that of an object, and of nothing else
pub record InitialValues : Type 0 where
  -- num n = true; flag f = 1; addr a = A; addr b = n; flag g = false;
  pub fields :
      ObjectHas
      (Field 4 (codes "n") Num (Some (const.Flag 6 true))
      ∷ Field 9 (codes "f") Flag (Some (const.Number 11 1))
      ∷ Field 14 (codes "a") Addr (Some (const.Name 16 (codes "A")))
      ∷ Field 19 (codes "b") Addr (Some (const.Name 21 (codes "n")))
      ∷ Field 24 (codes "g") Flag (Some (const.Flag 26 false))
      ∷ [])
      (fault 6 WrongType ∷ fault 11 WrongType ∷ fault 21 UnknownName ∷ [])
  -- map m: num -> addr = {1: A, 2: 2, A: A};
  pub maps :
      MapHas Num Addr
      ((const.Number 11 1, const.Name 13 (codes "A"))
      ∷ (const.Number 15 2, const.Number 17 2)
      ∷ (const.Name 19 (codes "A"), const.Name 21 (codes "A"))
      ∷ [])
      (fault 17 WrongType ∷ fault 19 WrongType ∷ [])
