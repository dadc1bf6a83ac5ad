-- What each form of statement passes.
use Rattle.std.proofs.Common.{◌≡◌, ℕ, ◌+◌, ◌<◌, ◌≤◌, Bool, List, [], ◌∷◌, ◌++◌, map, length, take, drop, get_or, Option, Some, None, is_some, true, false, if◌then◌else◌, subst, refl, ap, sym, ◌∙◌, append_assoc}
use Rattle.std.specs.Option.{option_map}
use Rattle.std.proofs.lemmas.List.{drop_more, drop_all}
use Rattle.ecf_lang.specs.declared.tree.Ty.{Ty}
use Rattle.ecf_lang.specs.declared.tree.Ty.TheVariants.{Num, Flag}
use Rattle.ecf_lang.specs.declared.tree.Expr.{Expr}
use Rattle.ecf_lang.specs.declared.tree.Block.{Block, out-Block}
use Rattle.ecf_lang.specs.declared.tree.Stmt.{Stmt, Stmt-F, roll-Stmt, out-Stmt, roll-out-Stmt}
use Rattle.ecf_lang.specs.declared.tree.Stmt.TheVariants as tree
use Rattle.ecf_lang.specs.declared.typed.TypedExpr.{TypedExpr}
use Rattle.ecf_lang.specs.declared.typed.TypedStmt.{TypedStmt}
use Rattle.ecf_lang.specs.declared.tree.CallExpr.{CallExpr}
use Rattle.ecf_lang.specs.declared.typed.TypedCall.{TypedCall, out-TypedCall}
use Rattle.ecf_lang.specs.declared.typed.FieldKind.{FieldKind}
use Rattle.ecf_typing.specs.declared.form.Summary.{Summary}
use Rattle.ecf_typing.specs.Summaries.{summary_of}
use Rattle.ecf_lang.specs.declared.typed.TypedStmt.TheVariants as typed
use Rattle.ecf_lang.specs.declared.typed.TypedBlock.{TypedBlock, roll-TypedBlock}
use Rattle.ecf_lang.specs.declared.typed.Assignee.{Assignee}
use Rattle.std.specs.Prelude.{not, nat_lt}
use Rattle.ecf_faults.specs.declared.Fault.{Fault}
use Rattle.ecf_faults.specs.declared.What.TheVariants as what
use Rattle.ecf_faults.specs.declared.Referent.{Referent}
use Rattle.ecf_faults.specs.Tables.{Table, Surroundings, Locals, declaration_of, with_declaration}
use Rattle.ecf_faults.specs.Expressions.{fault_if, call_report_of, map_faults, key_type, value_type, map_number, type_faults, referent, faults_for}
use Rattle.ecf_faults.specs.Statements.{try_form, Passage, Stretch, then_stretch, sequence_of, value, report_at, local_faults, with_local, assignee_faults, assignee_type, assignee_form, stmt_passage, block_passage, arm_step, last_step}
use Rattle.ecf_faults.specs.Least.{least_with}
use Rattle.ecf_faults.specs.Forms.{passage_let, passage_try, passage_set, passage_set_at, passage_while, passage_return, passage_revert, passage_do, passage_if, passage_block}
use Rattle.ecf_typing.specs.declared.statement.BodyCheck.{BodyCheck}
use Rattle.ecf_typing.specs.Passes.{Passes, locals_of}
use Rattle.ecf_typing.specs.Views.{contents_of}
use Rattle.ecf_typing.proofs.LoopLaws.{then_more, first_with_both}

-- the same by an equation
pub passes_by : {F : Type 0} (p q : Passage F) (o n : BodyCheck) (f : F) → p ≡ q → Passes q o n f → Passes p o n f
passes_by p q o n f is passes = record {
  made = passes.made ∙ sym (ap (λ (x : Passage _). x.form) is);
  noted = passes.noted ∙ sym (ap (λ (x : Passage _). least_with o.faults.first x.faults) is);
  after = passes.after ∙ sym (ap (λ (x : Passage _). x.after) is);
}

-- two parts, one after the other
pub joined_passes : {A B C : Type 0} (make : A → B → C) (p : Passage A) (next : Stretch B) (o m n : BodyCheck) (a : A) (b : B) → Passes p o m a → Passes (next (locals_of m)) m n b → Passes (then_stretch make p next) o n (make a b)
joined_passes make p next o m n a b first second =
    let moved : next (locals_of m) ≡ next p.after = ap next first.after in
    record {
      made = ap (λ x. make x b) first.made ∙ ap (make p.form) (second.made ∙ ap (λ (x : Passage _). x.form) moved);
      noted = then_more o.faults.first m.faults.first n.faults.first p.faults (next p.after).faults first.noted (second.noted ∙ ap (λ (x : Passage _). least_with m.faults.first x.faults) moved);
      after = second.after ∙ ap (λ (x : Passage _). x.after) moved;
    }

-- a declared local
pub local_noted : (limit at : ℕ) (name : List ℕ) (l : Locals) (known past : Bool) (o m n : Option Fault) → known ≡ is_some (declaration_of l.visible name) → past ≡ not (nat_lt l.next limit) → m ≡ least_with o (fault_if known at what.TwoLocals) → n ≡ least_with m (fault_if past at what.TooManyLocals) → n ≡ least_with o (local_faults limit at name l)
local_noted limit at name l known past o m n known_is past_is first second =
    then_more o m n (fault_if (is_some (declaration_of l.visible name)) at what.TwoLocals) (fault_if (not (nat_lt l.next limit)) at what.TooManyLocals) (first ∙ ap (λ b. least_with o (fault_if b at what.TwoLocals)) known_is) (second ∙ ap (λ b. least_with m (fault_if b at what.TooManyLocals)) past_is)

-- ---- parts in turn

-- what was made so far and what the rest passes come to what the whole passes
pub record Continues {A : Type 0} (whole : Passage (List A)) (rest : List (Stretch A)) (o now : BodyCheck) (made : List A) : Type 0 where
  pub form : made ++ (sequence_of rest (locals_of now)).form ≡ whole.form
  pub faults : least_with now.faults.first (sequence_of rest (locals_of now)).faults ≡ least_with o.faults.first whole.faults
  pub after : (sequence_of rest (locals_of now)).after ≡ whole.after

pub continues_start : {A : Type 0} (rest : List (Stretch A)) (o : BodyCheck) → Continues (sequence_of rest (locals_of o)) rest o o []
continues_start rest o = record { form = refl; faults = refl; after = refl }

at_drop : {X : Type 0} (xs : List X) (i : ℕ) (x : X) → i < length xs → x ≡ get_or xs i x → drop i xs ≡ x ∷ drop (i + 1) xs
at_drop xs i x within at = drop_more xs i x within ∙ ap (λ y. y ∷ drop (i + 1) xs) (sym at)

one_on : {A : Type 0} (whole : Passage (List A)) (part : Stretch A) (rest : List (Stretch A)) (o now new : BodyCheck) (made : List A) (a : A) → Continues whole (part ∷ rest) o now made → Passes (part (locals_of now)) now new a → Continues whole rest o new (made ++ a ∷ [])
one_on whole part rest o now new made a so_far passes =
    let moved : sequence_of rest (locals_of new) ≡ sequence_of rest (part (locals_of now)).after = ap (sequence_of rest) passes.after in
    record {
      form = append_assoc made (a ∷ []) _ ∙ ap (λ (x : Passage _). made ++ a ∷ x.form) moved ∙ ap (λ x. made ++ x ∷ (sequence_of rest (part (locals_of now)).after).form) passes.made ∙ so_far.form;
      faults = ap (λ (x : Passage _). least_with new.faults.first x.faults) moved ∙ ap (λ f. least_with f (sequence_of rest (part (locals_of now)).after).faults) passes.noted ∙ sym (first_with_both now.faults.first (part (locals_of now)).faults _) ∙ so_far.faults;
      after = ap (λ (x : Passage _). x.after) moved ∙ so_far.after;
    }

pub continues_on : {X A : Type 0} (p : X → Stretch A) (xs : List X) (i : ℕ) (x : X) (whole : Passage (List A)) (o now new : BodyCheck) (made made' : List A) (a : A) → Continues whole (map p (drop i xs)) o now made → i < length xs → x ≡ get_or xs i x → Passes (p x (locals_of now)) now new a → made' ≡ made ++ a ∷ [] → Continues whole (map p (drop (i + 1) xs)) o new made'
continues_on p xs i x whole o now new made made' a so_far within at passes is =
    rw is (one_on whole (p x) (map p (drop (i + 1) xs)) o now new made a (rw (at_drop xs i x within at) at so_far) passes)

append_nil : {X : Type 0} (xs : List X) → xs ++ [] ≡ xs
append_nil [] = refl
append_nil (x ∷ xs) = ap (λ ys. x ∷ ys) (append_nil xs)

ended : {A : Type 0} (whole : Passage (List A)) (o now : BodyCheck) (made : List A) → Continues whole [] o now made → Passes whole o now made
ended whole o now made c = record { made = sym (append_nil made) ∙ c.form; noted = c.faults; after = c.after }

pub continues_end : {X A : Type 0} (p : X → Stretch A) (xs : List X) (i : ℕ) (whole : Passage (List A)) (o now : BodyCheck) (made : List A) → Continues whole (map p (drop i xs)) o now made → length xs ≤ i → Passes whole o now made
continues_end p xs i whole o now made so_far past = ended whole o now made (rw (drop_all i xs past) at so_far)

-- ---- a block forgets what it declared

-- the later locals are the earlier ones and more
pub record Extends (a b : Table (ℕ × Ty)) : Type 0 where
  pub more : Table (ℕ × Ty)
  pub is : b ≡ a ++ more

extends_same : (a b : Table (ℕ × Ty)) → b ≡ a → Extends a b
extends_same a b e = record { more = []; is = e ∙ sym (append_nil a) }

extends_both : (a b c : Table (ℕ × Ty)) → Extends a b → Extends b c → Extends a c
extends_both a b c f g = record { more = f.more ++ g.more; is = g.is ∙ ap (λ x. x ++ g.more) f.is ∙ append_assoc a f.more g.more }

declare_extends : (t : Table (ℕ × Ty)) (name : List ℕ) (a : ℕ × Ty) → Extends t (with_declaration t name a)
declare_extends t name a = by_test (is_some (declaration_of t name))
  where
    by_test : (b : Bool) → Extends t (if b then t else t ++ (name, a) ∷ [])
    by_test true = extends_same t t refl
    by_test false = record { more = (name, a) ∷ []; is = refl }

take_front : {X : Type 0} (a b : List X) → take (length a) (a ++ b) ≡ a
take_front [] b = refl
take_front (x ∷ a) b = ap (λ y. x ∷ y) (take_front a b)

forgets : (a b : Table (ℕ × Ty)) → Extends a b → take (length a) b ≡ a
forgets a b e = ap (take (length a)) e.is ∙ take_front a e.more

turn_extends : {X A : Type 0} (p : X → Stretch A) → ((x : X) (locals : Locals) → Extends locals.visible (p x locals).after.visible) → (xs : List X) (locals : Locals) → Extends locals.visible (sequence_of (map p xs) locals).after.visible
turn_extends p each [] locals = extends_same _ _ refl
turn_extends p each (x ∷ xs) locals = extends_both _ _ _ (each x locals) (turn_extends p each xs (p x locals).after)

map_map : {A B C : Type 0} (f : A → B) (g : B → C) (xs : List A) → map g (map f xs) ≡ map (λ x. g (f x)) xs
map_map f g [] = refl
map_map f g (x ∷ xs) = ap (λ ys. g (f x) ∷ ys) (map_map f g xs)

module _ (s : Surroundings) (answer : Ty) where
  abbrev stmt_at : Stmt → Stretch TypedStmt
  stmt_at t = stmt_passage s answer t

  abbrev block_at : Block → Stretch TypedBlock
  block_at b = block_passage s answer b

  abbrev arm_at : Expr × Block → Stretch (TypedExpr × TypedBlock)
  arm_at arm = arm_step s answer (arm.0, block_at arm.1)

  block_same : (b : Block) (locals : Locals) → (block_at b locals).after.visible ≡ locals.visible
  block_same b locals = ap (λ (p : Passage TypedBlock). p.after.visible) (passage_block s answer b locals)

  arms_extend : (arms : List (Expr × Block)) (locals : Locals) → Extends locals.visible (sequence_of (map arm_at arms) locals).after.visible
  arms_extend arms locals = turn_extends arm_at (λ arm locals. extends_same _ _ (block_same arm.1 locals)) arms locals

  last_extends : (last : Option Block) (locals : Locals) → Extends locals.visible (last_step s answer (option_map block_at last) locals).after.visible
  last_extends None locals = extends_same _ _ refl
  last_extends (Some b) locals = extends_same _ _ (block_same b locals)

  stmt_extends : (t : Stmt) (locals : Locals) → Extends locals.visible (stmt_at t locals).after.visible
  stmt_extends t locals = layers (out-Stmt t) (sym (roll-out-Stmt t))
    where
      at : (t' : Stmt) → t ≡ t' → Extends locals.visible (stmt_at t' locals).after.visible → Extends locals.visible (stmt_at t locals).after.visible
      at t' is e = subst (λ t. Extends locals.visible (stmt_at t locals).after.visible) (sym is) e

      same : (p : Passage TypedStmt) → stmt_at t locals ≡ p → Extends locals.visible p.after.visible → Extends locals.visible (stmt_at t locals).after.visible
      same p is e = subst (λ (p : Passage TypedStmt). Extends locals.visible p.after.visible) (sym is) e

      layers : (l : Stmt-F Stmt Block) → t ≡ roll-Stmt l → Extends locals.visible (stmt_at t locals).after.visible
      layers (Stmt-F.Let at' name ty e) is = same _ (ap (λ t. stmt_at t locals) (is ∙ tree.rolls-Let at' name ty e) ∙ passage_let s answer at' name ty e locals) (declare_extends locals.visible name (locals.next, ty))
      layers (Stmt-F.Try at' name ty c) is = same _ (ap (λ t. stmt_at t locals) (is ∙ tree.rolls-Try at' name ty c) ∙ passage_try s answer at' name ty c locals) (declare_extends locals.visible name (locals.next, ty))
      layers (Stmt-F.Set at' name e) is = same _ (ap (λ t. stmt_at t locals) (is ∙ tree.rolls-Set at' name e) ∙ passage_set s answer at' name e locals) (extends_same _ _ refl)
      layers (Stmt-F.SetAt at' name key e) is = same _ (ap (λ t. stmt_at t locals) (is ∙ tree.rolls-SetAt at' name key e) ∙ passage_set_at s answer at' name key e locals) (extends_same _ _ refl)
      layers (Stmt-F.If arms None) is = same _ (ap (λ t. stmt_at t locals) (is ∙ tree.rolls-If arms None) ∙ passage_if s answer arms None locals) (if_extends arms None)
        where
          if_extends : (arms : List (Expr × Block)) (last : Option Block) → Extends locals.visible (then_stretch typed.If (sequence_of (map (arm_step s answer) (map (λ arm. (arm.0, block_at arm.1)) arms)) locals) (last_step s answer (option_map block_at last))).after.visible
          if_extends arms last = subst (λ ps. Extends locals.visible (then_stretch typed.If (sequence_of ps locals) (last_step s answer (option_map block_at last))).after.visible) (sym (map_map (λ arm. (arm.0, block_at arm.1)) (arm_step s answer) arms)) (extends_both _ _ _ (arms_extend arms locals) (last_extends last (sequence_of (map arm_at arms) locals).after))
      layers (Stmt-F.If arms (Some b)) is = same _ (ap (λ t. stmt_at t locals) (is ∙ tree.rolls-If arms (Some b)) ∙ passage_if s answer arms (Some b) locals) (if_extends arms (Some b))
        where
          if_extends : (arms : List (Expr × Block)) (last : Option Block) → Extends locals.visible (then_stretch typed.If (sequence_of (map (arm_step s answer) (map (λ arm. (arm.0, block_at arm.1)) arms)) locals) (last_step s answer (option_map block_at last))).after.visible
          if_extends arms last = subst (λ ps. Extends locals.visible (then_stretch typed.If (sequence_of ps locals) (last_step s answer (option_map block_at last))).after.visible) (sym (map_map (λ arm. (arm.0, block_at arm.1)) (arm_step s answer) arms)) (extends_both _ _ _ (arms_extend arms locals) (last_extends last (sequence_of (map arm_at arms) locals).after))
      layers (Stmt-F.While cond body) is = same _ (ap (λ t. stmt_at t locals) (is ∙ tree.rolls-While cond body) ∙ passage_while s answer cond body locals) (extends_same _ _ (block_same body locals))
      layers (Stmt-F.Return e) is = same _ (ap (λ t. stmt_at t locals) (is ∙ tree.rolls-Return e) ∙ passage_return s answer e locals) (extends_same _ _ refl)
      layers (Stmt-F.Revert e) is = same _ (ap (λ t. stmt_at t locals) (is ∙ tree.rolls-Revert e) ∙ passage_revert s answer e locals) (extends_same _ _ refl)
      layers (Stmt-F.Do c) is = same _ (ap (λ t. stmt_at t locals) (is ∙ tree.rolls-Do c) ∙ passage_do s answer c locals) (extends_same _ _ refl)

  -- ---- the forms

  pub block_passes : (b : Block) (o m n : BodyCheck) (made : List TypedStmt) → Passes (sequence_of (map stmt_at (out-Block b).stmts) (locals_of o)) o m made → contents_of n.visible ≡ take (length (contents_of o.visible)) (contents_of m.visible) → n.next ≡ m.next → n.faults.first ≡ m.faults.first → Passes (block_at b (locals_of o)) o n (roll-TypedBlock (record { stmts = made }))
  block_passes b o m n made passes cut next first =
      passes_by _ _ o n _ (passage_block s answer b (locals_of o)) (record {
        made = ap (λ ss. roll-TypedBlock (record { stmts = ss })) passes.made;
        noted = first ∙ passes.noted;
        after =
            ap (λ (t : Table (ℕ × Ty)). record { visible = t; next = n.next }) (cut ∙ ap (λ (x : Locals). take (length (contents_of o.visible)) x.visible) passes.after ∙ forgets _ _ (turn_extends stmt_at stmt_extends (out-Block b).stmts (locals_of o)))
            ∙ ap (λ k. record { visible = contents_of o.visible; next = k }) (next ∙ ap (λ (x : Locals). x.next) passes.after);
      })

  pub let_passes : (at : ℕ) (name : List ℕ) (ty : Ty) (e : Expr) (o m n : BodyCheck) (v : TypedExpr) (number : ℕ) → Passes (value s answer (Some ty) e (locals_of o)) o m v → number ≡ m.next → n.faults.first ≡ least_with m.faults.first (local_faults 64 at name (locals_of m)) → locals_of n ≡ with_local name ty (locals_of m) → Passes (stmt_at (tree.Let at name ty e) (locals_of o)) o n (typed.Let number ty v)
  let_passes at name ty e o m n v number passes is noted after =
      passes_by _ _ o n _ (passage_let s answer at name ty e (locals_of o)) (record {
        made = ap (λ k. typed.Let k ty v) (is ∙ ap (λ (x : Locals). x.next) passes.after) ∙ ap (λ f. typed.Let o.next ty f) passes.made;
        noted = then_more o.faults.first m.faults.first n.faults.first (faults_for (Some ty) (report_at s answer (locals_of o) e)) (local_faults 64 at name (locals_of o)) passes.noted (noted ∙ ap (λ (x : Locals). least_with m.faults.first (local_faults 64 at name x)) passes.after);
        after = after ∙ ap (with_local name ty) passes.after;
      })

  pub set_passes : (at : ℕ) (name : List ℕ) (e : Expr) (o m n : BodyCheck) (left : Referent) (v : TypedExpr) (to : Assignee) → left ≡ referent s (contents_of o.visible) name → m.faults.first ≡ least_with o.faults.first (assignee_faults at left) → locals_of m ≡ locals_of o → Passes (value s answer (assignee_type left) e (locals_of m)) m n v → to ≡ assignee_form left → Passes (stmt_at (tree.Set at name e) (locals_of o)) o n (typed.Set to v)
  set_passes at name e o m n left v to is noted same passes to_is =
      let moved : Passes (value s answer (assignee_type left) e (locals_of o)) m n v = subst (λ x. Passes (value s answer (assignee_type left) e x) m n v) same passes in
      passes_by _ _ o n _ (passage_set s answer at name e (locals_of o)) (subst (λ w. Passes (record {
        faults = assignee_faults at w ++ faults_for (assignee_type w) (report_at s answer (locals_of o) e);
        form = typed.Set (assignee_form w) (report_at s answer (locals_of o) e).form;
        after = locals_of o;
      }) o n (typed.Set to v)) is (record {
        made = ap (λ a. typed.Set a v) to_is ∙ ap (typed.Set (assignee_form left)) moved.made;
        noted = then_more o.faults.first m.faults.first n.faults.first (assignee_faults at left) _ noted moved.noted;
        after = moved.after;
      }))

  pub while_passes : (t : Stmt) (cond : Expr) (body : Block) (o m n : BodyCheck) (c : TypedExpr) (b : TypedBlock) → t ≡ tree.While cond body → Passes (value s answer (Some Flag) cond (locals_of o)) o m c → Passes (block_at body (locals_of m)) m n b → Passes (stmt_at t (locals_of o)) o n (typed.While c b)
  while_passes t cond body o m n c b is first second =
      passes_by _ _ o n _ (ap (λ t. stmt_at t (locals_of o)) is ∙ passage_while s answer cond body (locals_of o)) (joined_passes typed.While _ (block_at body) o m n c b first second)

  pub return_passes : (t : Stmt) (e : Expr) (o n : BodyCheck) (v : TypedExpr) → t ≡ tree.Return e → Passes (value s answer (Some answer) e (locals_of o)) o n v → Passes (stmt_at t (locals_of o)) o n (typed.Return v)
  return_passes t e o n v is passes =
      passes_by _ _ o n _ (ap (λ t. stmt_at t (locals_of o)) is ∙ passage_return s answer e (locals_of o)) (record { made = ap typed.Return passes.made; noted = passes.noted; after = passes.after })

  pub arm_passes : (cond : Expr) (body : Block) (o m n : BodyCheck) (c : TypedExpr) (b : TypedBlock) → Passes (value s answer (Some Flag) cond (locals_of o)) o m c → Passes (block_at body (locals_of m)) m n b → Passes (arm_at (cond, body) (locals_of o)) o n (c, b)
  arm_passes cond body o m n c b first second = joined_passes (λ c b. (c, b)) _ (block_at body) o m n c b first second

  pub none_passes : (o : BodyCheck) → Passes (last_step s answer None (locals_of o)) o o None
  none_passes o = record { made = refl; noted = refl; after = refl }

  pub some_passes : (b : Block) (o n : BodyCheck) (made : TypedBlock) → Passes (block_at b (locals_of o)) o n made → Passes (last_step s answer (option_map block_at (Some b)) (locals_of o)) o n (Some made)
  some_passes b o n made passes = record { made = ap Some passes.made; noted = passes.noted; after = passes.after }

  pub if_passes : (t : Stmt) (arms : List (Expr × Block)) (last : Option Block) (o m n : BodyCheck) (as' : List (TypedExpr × TypedBlock)) (l : Option TypedBlock) → t ≡ tree.If arms last → Passes (sequence_of (map arm_at arms) (locals_of o)) o m as' → Passes (last_step s answer (option_map block_at last) (locals_of m)) m n l → Passes (stmt_at t (locals_of o)) o n (typed.If as' l)
  if_passes t arms last o m n as' l is first second =
      passes_by _ _ o n _ (ap (λ t. stmt_at t (locals_of o)) is ∙ passage_if s answer arms last (locals_of o) ∙ ap (λ ps. then_stretch typed.If (sequence_of ps (locals_of o)) (last_step s answer (option_map block_at last))) (map_map (λ arm. (arm.0, block_at arm.1)) (arm_step s answer) arms))
      (joined_passes typed.If _ (last_step s answer (option_map block_at last)) o m n as' l first second)

  pub revert_passes : (t : Stmt) (e : Expr) (o n : BodyCheck) (v : TypedExpr) → t ≡ tree.Revert e → Passes (value s answer (Some Num) e (locals_of o)) o n v → Passes (stmt_at t (locals_of o)) o n (typed.Revert v)
  revert_passes t e o n v is passes =
      passes_by _ _ o n _ (ap (λ t. stmt_at t (locals_of o)) is ∙ passage_revert s answer e (locals_of o)) (record { made = ap typed.Revert passes.made; noted = passes.noted; after = passes.after })

  pub do_passes : (t : Stmt) (call : CallExpr) (o n : BodyCheck) (c : Summary TypedCall) → t ≡ tree.Do call → c ≡ summary_of (call_report_of s (locals_of o).visible call) → n.faults.first ≡ least_with o.faults.first (call_report_of s (locals_of o).visible call).faults → locals_of n ≡ locals_of o → Passes (stmt_at t (locals_of o)) o n (typed.Do c.form)
  do_passes t call o n c is was noted same =
      passes_by _ _ o n _ (ap (λ t. stmt_at t (locals_of o)) is ∙ passage_do s answer call (locals_of o)) (record { made = ap (λ (x : Summary TypedCall). typed.Do x.form) was; noted = noted; after = same })

  pub set_at_passes : (at : ℕ) (name : List ℕ) (key e : Expr) (o m k n : BodyCheck) (own : Option (ℕ × FieldKind)) (v w : TypedExpr) → own ≡ declaration_of s.own name → m.faults.first ≡ least_with o.faults.first (map_faults at own) → locals_of m ≡ locals_of o → Passes (value s answer (key_type own) key (locals_of m)) m k v → Passes (value s answer (value_type own) e (locals_of k)) k n w → Passes (stmt_at (tree.SetAt at name key e) (locals_of o)) o n (typed.SetAt (map_number own) v w)
  set_at_passes at name key e o m k n own v w is noted same first second =
      let one : Passes (value s answer (key_type own) key (locals_of o)) m k v = subst (λ x. Passes (value s answer (key_type own) key x) m k v) same first in
      let two : Passes (value s answer (value_type own) e (locals_of o)) k n w = subst (λ x. Passes (value s answer (value_type own) e x) k n w) one.after second in
      passes_by _ _ o n _ (passage_set_at s answer at name key e (locals_of o)) (subst (λ q. Passes (record {
        faults = map_faults at q ++ faults_for (key_type q) (report_at s answer (locals_of o) key) ++ faults_for (value_type q) (report_at s answer (locals_of o) e);
        form = typed.SetAt (map_number q) (report_at s answer (locals_of o) key).form (report_at s answer (locals_of o) e).form;
        after = locals_of o;
      }) o n (typed.SetAt (map_number own) v w)) is (record {
        made = ap (λ x. typed.SetAt (map_number own) x w) one.made ∙ ap (typed.SetAt (map_number own) (report_at s answer (locals_of o) key).form) two.made;
        noted = then_more o.faults.first k.faults.first n.faults.first (map_faults at own ++ faults_for (key_type own) (report_at s answer (locals_of o) key)) (faults_for (value_type own) (report_at s answer (locals_of o) e)) (then_more o.faults.first m.faults.first k.faults.first (map_faults at own) (faults_for (key_type own) (report_at s answer (locals_of o) key)) noted one.noted) two.noted;
        after = two.after;
      }))

  pub try_passes : (at : ℕ) (name : List ℕ) (ty : Ty) (call : CallExpr) (o m k n : BodyCheck) (c : Summary TypedCall) (number : ℕ) → c ≡ summary_of (call_report_of s (locals_of o).visible call) → m.faults.first ≡ least_with o.faults.first (call_report_of s (locals_of o).visible call).faults → locals_of m ≡ locals_of o → k.faults.first ≡ least_with m.faults.first (type_faults (Some Flag) (Some ty) c.place) → locals_of k ≡ locals_of m → number ≡ k.next → n.faults.first ≡ least_with k.faults.first (local_faults 64 at name (locals_of k)) → locals_of n ≡ with_local name ty (locals_of k) → Passes (stmt_at (tree.Try at name ty call) (locals_of o)) o n (try_form number (out-TypedCall c.form))
  try_passes at name ty call o m k n c number was noted same unfit_noted still is local after =
      let locals : locals_of k ≡ locals_of o = still ∙ same in
      passes_by _ _ o n _ (passage_try s answer at name ty call (locals_of o)) (record {
        made = ap (λ x. try_form x (out-TypedCall c.form)) (is ∙ ap (λ (x : Locals). x.next) locals) ∙ ap (λ (x : Summary TypedCall). try_form o.next (out-TypedCall x.form)) was;
        noted = then_more o.faults.first k.faults.first n.faults.first ((call_report_of s (locals_of o).visible call).faults ++ type_faults (Some Flag) (Some ty) (call_report_of s (locals_of o).visible call).place) (local_faults 64 at name (locals_of o))
            (then_more o.faults.first m.faults.first k.faults.first (call_report_of s (locals_of o).visible call).faults _ noted (unfit_noted ∙ ap (λ (x : Summary TypedCall). least_with m.faults.first (type_faults (Some Flag) (Some ty) x.place)) was))
            (local ∙ ap (λ (x : Locals). least_with k.faults.first (local_faults 64 at name x)) locals);
        after = after ∙ ap (with_local name ty) locals;
      })
