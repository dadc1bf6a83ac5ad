-- The counter is well formed; the one that takes a flag for a number isn't.
use Rattle.std.proofs.Common.{◌≡◌, ◌≢◌, ℕ, zero, suc, ◌<◌, ◌==◌, Bool, true, false, ◌&&◌, List, [], ◌∷◌, refl, sym, ap, ◌∙◌, arith, All, AllPairs}
use Rattle.std.specs.Prelude.{codes, slice_get, Some}
use Rattle.ecf_lang.specs.declared.tree.Ty.{Ty}
use Rattle.std.proofs.lemmas.List.Elements.{All-nil, All-cons, All-head}
use Rattle.ecf_lang.specs.declared.tree.Ty.TheVariants.{Num}
use Rattle.ecf_lang.specs.declared.tree.Op.{Op}
use Rattle.ecf_lang.specs.declared.tree.Op.TheVariants.{Add}
use Rattle.ecf_lang.specs.declared.typed.Typed.{Typed}
use Rattle.ecf_lang.specs.declared.typed.TypedField.{TypedField}
use Rattle.ecf_lang.specs.declared.typed.TypedMethod.{TypedMethod}
use Rattle.ecf_lang.specs.declared.typed.TypedObject.{TypedObject}
use Rattle.ecf_lang.specs.declared.typed.FieldKind.TheVariants as kind
use Rattle.ecf_lang.specs.declared.typed.Place.TheVariants as place
use Rattle.ecf_lang.specs.declared.typed.Assignee.TheVariants as assignee
use Rattle.ecf_lang.specs.declared.typed.TypedExpr.{TypedExpr}
use Rattle.ecf_lang.specs.declared.typed.TypedExpr.TheVariants as expr
use Rattle.ecf_lang.specs.declared.typed.TypedStmt.{TypedStmt}
use Rattle.ecf_lang.specs.declared.typed.TypedStmt.TheVariants as stmt
use Rattle.ecf_lang.specs.declared.typed.TypedBlock.{TypedBlock, roll-TypedBlock}
use Rattle.ecf_grammar.specs.declared.tokens.Word.{Word}
use Rattle.ecf_grammar.specs.declared.tokens.Word.TheVariants as word
use Rattle.ecf_grammar.specs.Spelling.{word_text, IsName}
use Rattle.ecf_wellformed.specs.Typing.{Scope, IsMethodName, IsOfSum, HasType, PlaceHas, AssigneeHas, AreNums, IsStmt, AreStmts, IsBlock}
use Rattle.ecf_wellformed.specs.WellFormed.{IsField, IsMethod, IsObject}
use Rattle.ecf_wellformed.specs.Cases.{counter, one_more, CounterIsWellFormed, FlagIsNoNumber}

abbrev same : List ℕ → List ℕ → Bool
same [] [] = true
same [] (y ∷ ys) = false
same (x ∷ xs) [] = false
same (x ∷ xs) (y ∷ ys) = (x == y) && same xs ys

-- a text that each reserved word differs from is none of them
free : (bytes : List ℕ) → same bytes bytes ≡ true → (w : Word) → same bytes (word_text w) ≡ false → bytes ≢ word_text w
free bytes itself w other e = let no : true ≡ false = sym itself ∙ ap (same bytes) e ∙ other in let none : ⊥ = cc in absurd none

not_bump : (w : Word) → same (codes "bump") (word_text w) ≡ false
not_bump word.Object = refl
not_bump word.Num = refl
not_bump word.Flag = refl
not_bump word.Addr = refl
not_bump word.Map = refl
not_bump word.Method = refl
not_bump word.Let = refl
not_bump word.If = refl
not_bump word.Else = refl
not_bump word.While = refl
not_bump word.Return = refl
not_bump word.Revert = refl
not_bump word.Call = refl
not_bump word.SelfWord = refl
not_bump word.Here = refl
not_bump word.True = refl
not_bump word.False = refl
not_bump word.Try = refl

not_counter : (w : Word) → same (codes "Counter") (word_text w) ≡ false
not_counter word.Object = refl
not_counter word.Num = refl
not_counter word.Flag = refl
not_counter word.Addr = refl
not_counter word.Map = refl
not_counter word.Method = refl
not_counter word.Let = refl
not_counter word.If = refl
not_counter word.Else = refl
not_counter word.While = refl
not_counter word.Return = refl
not_counter word.Revert = refl
not_counter word.Call = refl
not_counter word.SelfWord = refl
not_counter word.Here = refl
not_counter word.True = refl
not_counter word.False = refl
not_counter word.Try = refl

not_n : (w : Word) → same (codes "n") (word_text w) ≡ false
not_n word.Object = refl
not_n word.Num = refl
not_n word.Flag = refl
not_n word.Addr = refl
not_n word.Map = refl
not_n word.Method = refl
not_n word.Let = refl
not_n word.If = refl
not_n word.Else = refl
not_n word.While = refl
not_n word.Return = refl
not_n word.Revert = refl
not_n word.Call = refl
not_n word.SelfWord = refl
not_n word.Here = refl
not_n word.True = refl
not_n word.False = refl
not_n word.Try = refl

name_bump : IsName (codes "bump")
name_bump = record { identifier = (refl, refl); free = λ w. free (codes "bump") refl w (not_bump w) }

name_counter : IsName (codes "Counter")
name_counter = record { identifier = (refl, refl); free = λ w. free (codes "Counter") refl w (not_counter w) }

name_n : IsName (codes "n")
name_n = record { identifier = (refl, refl); free = λ w. free (codes "n") refl w (not_n w) }

one : {A : Type 0} (R : A → A → Type 0) (x : A) → AllPairs R (x ∷ [])
one R x = λ i j d lt within. absurd (omega arith)

alone : {A : Type 0} (P : A → Type 0) (x : A) → P x → All P (x ∷ [])
alone P x p = All-cons P x [] p (All-nil P)

abbrev contract : Typed
contract = counter one_more

abbrev field : TypedField
field = record { name = codes "n"; kind = kind.Plain Num; first = [] }

abbrev body_with : TypedExpr → TypedBlock
body_with step = roll-TypedBlock (record { stmts = stmt.Set (assignee.Plain 0) step ∷ stmt.Return (expr.Name (place.Plain 0)) ∷ [] })

abbrev method_with : TypedExpr → TypedMethod
method_with step = record { name = 0; locals = 0; body = body_with step }

abbrev object_with : TypedExpr → TypedObject
object_with step = record { name = codes "Counter"; fields = field ∷ []; methods = method_with step ∷ [] }

abbrev own : TypedObject
own = object_with one_more

is_field : IsField contract field
is_field = record { name = name_n; first = (omega arith, All-nil _) }

reads : HasType contract own [] (expr.Name (place.Plain 0)) Num
reads = HasType.name (PlaceHas.plain refl refl)

step_is : HasType contract own [] one_more Num
step_is = HasType.sum reads (alone (λ (part : Op × TypedExpr). IsOfSum part.0) (Add, expr.Number 1) IsOfSum.plus) (AreNums.part (HasType.number (omega arith)) AreNums.no_part)

body_is : IsBlock contract own Num [] 0 (body_with one_more) 0
body_is = IsBlock.block (AreStmts.stmts (IsStmt.set (AssigneeHas.plain refl refl) step_is) (AreStmts.stmts (IsStmt.return reads) AreStmts.no_stmt))

is_method : IsMethod contract own (method_with one_more)
is_method = record {
  signature = record { params = []; answer = Num };
  has_signature = refl;
  few_parameters = omega arith;
  body = body_is;
  few_locals = omega arith;
}

is_object : IsObject contract own
is_object = record {
  name = name_counter;
  few_fields = omega arith;
  few_methods = omega arith;
  field_names = one (λ a b. a ≢ b) (codes "n");
  method_names = one (λ a b. a ≢ b) 0;
  fields = alone (IsField contract) field is_field;
  methods = alone (IsMethod contract own) (method_with one_more) is_method;
}

used : (name : ℕ) → name < 1 → IsMethodName contract name
used zero within = (0, own, omega arith, refl, refl)
used (suc n) within = absurd (omega (arith, within))

pub is_well_formed : CounterIsWellFormed
is_well_formed = record {
  few_objects = omega arith;
  object_names = one (λ a b. a ≢ b) (codes "Counter");
  objects = alone (IsObject contract) own is_object;
  spelled = alone IsName (codes "bump") name_bump;
  method_names = one (λ a b. a ≢ b) (codes "bump");
  used = used;
  signatures = refl;
}

-- ---- a flag is no number

abbrev flagged : Typed
flagged = counter (expr.Flag true)

abbrev flag_own : TypedObject
flag_own = object_with (expr.Flag true)

flag_num : {visible : Scope} {ty : Ty} → ty ≡ Num → HasType flagged flag_own visible (expr.Flag true) ty → ⊥
flag_num e HasType.flag = let none : ⊥ = cc in absurd none

kind_num : {n : ℕ} {f : TypedField} {ty : Ty} → n ≡ 0 → slice_get flag_own.fields n ≡ Some f → f.kind ≡ kind.Plain ty → ty ≡ Num
kind_num {n} {f} {ty} z e k = let at : slice_get flag_own.fields n ≡ Some field = ap (slice_get flag_own.fields) z in let same_field : field ≡ f = cc in plain_is (ap (λ (g : TypedField). g.kind) same_field ∙ k) where
  plain_is : {a b : Ty} → kind.Plain a ≡ kind.Plain b → b ≡ a
  plain_is h = cc

plain_num : {visible : Scope} {ty : Ty} → AssigneeHas flagged flag_own visible (assignee.Plain 0) ty → ty ≡ Num
plain_num (AssigneeHas.plain e k) = kind_num refl e k

no_set : {visible behind : Scope} {next after : ℕ} {answer : Ty} → IsStmt flagged flag_own answer visible next (stmt.Set (assignee.Plain 0) (expr.Flag true)) behind after → ⊥
no_set (IsStmt.set to value) = flag_num (plain_num to) value

no_stmts : {visible : Scope} {next after : ℕ} {answer : Ty} {rest : List TypedStmt} → AreStmts flagged flag_own answer visible next (stmt.Set (assignee.Plain 0) (expr.Flag true) ∷ rest) after → ⊥
no_stmts (AreStmts.stmts first rest) = no_set first

no_block : {visible : Scope} {next after : ℕ} {answer : Ty} → IsBlock flagged flag_own answer visible next (body_with (expr.Flag true)) after → ⊥
no_block (IsBlock.block all) = no_stmts all

pub flag_is_no_number : FlagIsNoNumber
flag_is_no_number formed =
    let object : IsObject flagged flag_own = All-head (IsObject flagged) flag_own [] formed.objects in
    let method : IsMethod flagged flag_own (method_with (expr.Flag true)) = All-head (IsMethod flagged flag_own) (method_with (expr.Flag true)) [] object.methods in
    no_block method.body
