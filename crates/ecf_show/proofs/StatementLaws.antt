-- What was written of the parts of a statement or a block is the whole of it.
use Rattle.std.proofs.Common.{◌≡◌, ℕ, ◌+◌, ◌<◌, ◌≤◌, List, [], ◌∷◌, ◌++◌, map, length, get_or, take, Option, Some, Result, refl, ap, sym, ◌∙◌, append_assoc, add-one, codes}
use Rattle.std.specs.Prelude.{OnOk}
use Rattle.std.specs.List.{flat_map}
use Rattle.std.specs.Option.{option_map}
use Rattle.std.proofs.lemmas.List.{take_all, append-nil}
use Rattle.std.proofs.lemmas.List.Folds.{flat_map-map}
use Rattle.ecf_grammar.specs.declared.tokens.Word.TheVariants as word
use Rattle.ecf_grammar.specs.declared.tokens.Sign.TheVariants as sign
use Rattle.ecf_lang.specs.declared.tree.Ty.{Ty}
use Rattle.ecf_lang.specs.declared.tree.Expr.{Expr}
use Rattle.ecf_lang.specs.declared.tree.CallExpr.{CallExpr}
use Rattle.ecf_lang.specs.declared.tree.Stmt.{Stmt}
use Rattle.ecf_lang.specs.declared.tree.Stmt.TheVariants as stmt
use Rattle.ecf_lang.specs.declared.tree.Block.{Block, out-Block}
use Rattle.ecf_show.specs.Marks.{Marks, Wrote, text_of, name_mark, word_mark, sign_mark, spaced, joined, in_brackets}
use Rattle.ecf_show.specs.Marks.Mark.{Space, Line}
use Rattle.ecf_show.specs.Expressions.{shown_call, expr_marks, call_marks}
use Rattle.ecf_show.specs.Statements.{Layout, lines_of, braced, declared, assigned, semicolon, arm_marks, last_marks, otherwise, condition_marks, stmt_marks, block_marks}
use Rattle.ecf_show.specs.Forms.{marks_let, marks_try, marks_set, marks_set_at, marks_while, marks_return, marks_revert, marks_do, marks_if, marks_block}
use Rattle.ecf_show.proofs.TextLaws.{wrote_then}
use Rattle.ecf_show.proofs.ExpressionLaws.{on_ok_then, wrote_as, wrote_three, enclosed_written, map_twice, lead, joined_more}

-- a statement whose form has these marks
stmt_as : (s form : Stmt) (depth : ℕ) (marks : Marks) → s ≡ form → stmt_marks form depth ≡ marks → marks ≡ stmt_marks s depth
stmt_as s form depth marks is has = sym (ap (λ x. stmt_marks x depth) is ∙ has)

-- what was written before, and what a last call writes
written_then : {A E : Type 0} (r : Result A E) (t0 t1 t2 : List ℕ) (a b whole : Marks) → a ++ b ≡ whole → Wrote t0 t1 a → OnOk r (Wrote t1 t2 b) → OnOk r (Wrote t0 t2 whole)
written_then r t0 t1 t2 a b whole is first last = on_ok_then r (Wrote t1 t2 b) (Wrote t0 t2 whole) last (λ written. wrote_as t0 t2 (a ++ b) whole is (wrote_then t0 t1 t2 a b first written))

pub let_written : {A E : Type 0} (r : Result A E) (s : Stmt) (at : ℕ) (name : List ℕ) (ty : Ty) (e : Expr) (depth : ℕ) (t0 t1 t2 t3 : List ℕ) → s ≡ stmt.Let at name ty e → Wrote t0 t1 (word_mark word.Let ∷ Space ∷ []) → Wrote t1 t2 (declared name ty) → OnOk r (Wrote t2 t3 (assigned (expr_marks e))) → OnOk r (Wrote t0 t3 (stmt_marks s depth))
let_written r s at name ty e depth t0 t1 t2 t3 is first named value =
    written_then r t0 t2 t3 (word_mark word.Let ∷ Space ∷ declared name ty) (assigned (expr_marks e)) (stmt_marks s depth) (stmt_as s (stmt.Let at name ty e) depth _ is (marks_let at name ty e depth))
    (wrote_then t0 t1 t2 (word_mark word.Let ∷ Space ∷ []) (declared name ty) first named) value

pub try_written : (s : Stmt) (at : ℕ) (name : List ℕ) (ty : Ty) (c : CallExpr) (depth : ℕ) (t0 t1 t2 t3 t4 t5 : List ℕ) → s ≡ stmt.Try at name ty c → Wrote t0 t1 (word_mark word.Let ∷ Space ∷ []) → Wrote t1 t2 (declared name ty) → Wrote t2 t3 (spaced sign.Assign ++ word_mark word.Try ∷ Space ∷ []) → Wrote t3 t4 (shown_call c).tried → Wrote t4 t5 semicolon → Wrote t0 t5 (stmt_marks s depth)
try_written s at name ty c depth t0 t1 t2 t3 t4 t5 is first named assigns tried ended =
    wrote_as t0 t5 _ (stmt_marks s depth) (stmt_as s (stmt.Try at name ty c) depth _ is (marks_try at name ty c depth))
    (wrote_three t0 t1 t2 t5 (word_mark word.Let ∷ Space ∷ []) (declared name ty) ((spaced sign.Assign ++ word_mark word.Try ∷ Space ∷ []) ++ ((shown_call c).tried ++ semicolon)) first named
    (wrote_three t2 t3 t4 t5 (spaced sign.Assign ++ word_mark word.Try ∷ Space ∷ []) (shown_call c).tried semicolon assigns tried ended))

pub set_written : {A E : Type 0} (r : Result A E) (s : Stmt) (at : ℕ) (name : List ℕ) (e : Expr) (depth : ℕ) (t0 t1 t2 : List ℕ) → s ≡ stmt.Set at name e → Wrote t0 t1 (name_mark name ∷ []) → OnOk r (Wrote t1 t2 (assigned (expr_marks e))) → OnOk r (Wrote t0 t2 (stmt_marks s depth))
set_written r s at name e depth t0 t1 t2 is named value =
    written_then r t0 t1 t2 (name_mark name ∷ []) (assigned (expr_marks e)) (stmt_marks s depth) (stmt_as s (stmt.Set at name e) depth _ is (marks_set at name e depth)) named value

pub set_at_written : {A E : Type 0} (r : Result A E) (s : Stmt) (at : ℕ) (name : List ℕ) (key e : Expr) (depth : ℕ) (t0 t1 t2 t3 t4 t5 : List ℕ) → s ≡ stmt.SetAt at name key e → Wrote t0 t1 (name_mark name ∷ []) → Wrote t1 t2 (sign_mark sign.OpenBracket ∷ []) → Wrote t2 t3 (expr_marks key) → Wrote t3 t4 (sign_mark sign.CloseBracket ∷ []) → OnOk r (Wrote t4 t5 (assigned (expr_marks e))) → OnOk r (Wrote t0 t5 (stmt_marks s depth))
set_at_written r s at name key e depth t0 t1 t2 t3 t4 t5 is named opened inner closed value =
    written_then r t0 t4 t5 (name_mark name ∷ in_brackets (expr_marks key)) (assigned (expr_marks e)) (stmt_marks s depth) (stmt_as s (stmt.SetAt at name key e) depth _ is (marks_set_at at name key e depth))
    (wrote_then t0 t1 t4 (name_mark name ∷ []) (in_brackets (expr_marks key)) named
    (enclosed_written sign.OpenBracket sign.CloseBracket (expr_marks key) t1 t2 t3 t4 opened inner closed)) value

-- a condition and the block that it guards
guarded_written : (cond : Expr) (block : Block) (depth : ℕ) (t0 t1 t2 : List ℕ) → Wrote t0 t1 (condition_marks cond) → Wrote t1 t2 (block_marks block depth) → Wrote t0 t2 (expr_marks cond ++ Space ∷ block_marks block depth)
guarded_written cond block depth t0 t1 t2 condition body =
    wrote_as t0 t2 _ (expr_marks cond ++ Space ∷ block_marks block depth) (append_assoc (expr_marks cond) (Space ∷ []) (block_marks block depth)) (wrote_then t0 t1 t2 (condition_marks cond) (block_marks block depth) condition body)

pub while_written : {A E : Type 0} (r : Result A E) (s : Stmt) (cond : Expr) (body : Block) (depth : ℕ) (t0 t1 t2 t3 : List ℕ) → s ≡ stmt.While cond body → Wrote t0 t1 (word_mark word.While ∷ Space ∷ []) → Wrote t1 t2 (condition_marks cond) → OnOk r (Wrote t2 t3 (block_marks body depth)) → OnOk r (Wrote t0 t3 (stmt_marks s depth))
while_written r s cond body depth t0 t1 t2 t3 is first condition block =
    on_ok_then r (Wrote t2 t3 (block_marks body depth)) (Wrote t0 t3 (stmt_marks s depth)) block (λ written.
    wrote_as t0 t3 _ (stmt_marks s depth) (stmt_as s (stmt.While cond body) depth _ is (marks_while cond body depth))
    (wrote_then t0 t1 t3 (word_mark word.While ∷ Space ∷ []) (expr_marks cond ++ Space ∷ block_marks body depth) first (guarded_written cond body depth t1 t2 t3 condition written)))

pub return_written : {A E : Type 0} (r : Result A E) (s : Stmt) (e : Expr) (depth : ℕ) (t0 t1 t2 : List ℕ) → s ≡ stmt.Return e → Wrote t0 t1 (word_mark word.Return ∷ Space ∷ []) → OnOk r (Wrote t1 t2 (expr_marks e ++ semicolon)) → OnOk r (Wrote t0 t2 (stmt_marks s depth))
return_written r s e depth t0 t1 t2 is first value =
    written_then r t0 t1 t2 (word_mark word.Return ∷ Space ∷ []) (expr_marks e ++ semicolon) (stmt_marks s depth) (stmt_as s (stmt.Return e) depth _ is (marks_return e depth)) first value

pub revert_written : {A E : Type 0} (r : Result A E) (s : Stmt) (e : Expr) (depth : ℕ) (t0 t1 t2 : List ℕ) → s ≡ stmt.Revert e → Wrote t0 t1 (word_mark word.Revert ∷ Space ∷ []) → OnOk r (Wrote t1 t2 (expr_marks e ++ semicolon)) → OnOk r (Wrote t0 t2 (stmt_marks s depth))
revert_written r s e depth t0 t1 t2 is first value =
    written_then r t0 t1 t2 (word_mark word.Revert ∷ Space ∷ []) (expr_marks e ++ semicolon) (stmt_marks s depth) (stmt_as s (stmt.Revert e) depth _ is (marks_revert e depth)) first value

pub do_written : (s : Stmt) (c : CallExpr) (depth : ℕ) (t0 t1 t2 : List ℕ) → s ≡ stmt.Do c → Wrote t0 t1 (call_marks c) → Wrote t1 t2 semicolon → Wrote t0 t2 (stmt_marks s depth)
do_written s c depth t0 t1 t2 is called ended =
    wrote_as t0 t2 _ (stmt_marks s depth) (stmt_as s (stmt.Do c) depth _ is (marks_do c depth))
    (wrote_then t0 t1 t2 (call_marks c) semicolon called ended)

-- ---- blocks

block_as : (b : Block) (depth : ℕ) (stmts : List Stmt) → (out-Block b).stmts ≡ stmts → braced depth (map stmt_marks stmts) ≡ block_marks b depth
block_as b depth stmts is = sym (marks_block b depth ∙ ap (λ xs. braced depth (map stmt_marks xs)) is)

-- braces with something between them
pub braced_some : {X : Type 0} (depth : ℕ) (f : X → Layout) (items : List X) → (items ≡ [] → ⊥) → sign_mark sign.OpenBrace ∷ lines_of (depth + 1) (map f items) ++ Line depth ∷ sign_mark sign.CloseBrace ∷ [] ≡ braced depth (map f items)
braced_some depth f [] some = absurd (some refl)
braced_some depth f (item ∷ items) some = refl

pub empty_block_written : {A E : Type 0} (r : Result A E) (b : Block) (depth : ℕ) (t0 t1 : List ℕ) → (out-Block b).stmts ≡ [] → OnOk r (Wrote t0 t1 (sign_mark sign.OpenBrace ∷ Space ∷ sign_mark sign.CloseBrace ∷ [])) → OnOk r (Wrote t0 t1 (block_marks b depth))
empty_block_written r b depth t0 t1 is written =
    on_ok_then r (Wrote t0 t1 (sign_mark sign.OpenBrace ∷ Space ∷ sign_mark sign.CloseBrace ∷ [])) (Wrote t0 t1 (block_marks b depth)) written (wrote_as t0 t1 _ (block_marks b depth) (block_as b depth [] is))

pub block_written : (b : Block) (depth : ℕ) (t0 t1 t2 t3 t4 : List ℕ) → ((out-Block b).stmts ≡ [] → ⊥) → Wrote t0 t1 (sign_mark sign.OpenBrace ∷ []) → Wrote t1 t2 (lines_of (depth + 1) (map stmt_marks (out-Block b).stmts)) → Wrote t2 t3 (Line depth ∷ []) → Wrote t3 t4 (sign_mark sign.CloseBrace ∷ []) → Wrote t0 t4 (block_marks b depth)
block_written b depth t0 t1 t2 t3 t4 some opened lines line closed =
    wrote_as t0 t4 _ (block_marks b depth) (braced_some depth stmt_marks (out-Block b).stmts some ∙ sym (marks_block b depth))
    (wrote_three t0 t1 t2 t4 (sign_mark sign.OpenBrace ∷ []) (lines_of (depth + 1) (map stmt_marks (out-Block b).stmts)) (Line depth ∷ sign_mark sign.CloseBrace ∷ []) opened lines
    (wrote_then t2 t3 t4 (Line depth ∷ []) (sign_mark sign.CloseBrace ∷ []) line closed))

-- a line for each item
pub lines_written : {X : Type 0} (depth : ℕ) (f : X → Layout) (items : List X) (t0 t1 : List ℕ) → Wrote t0 t1 (flat_map (λ x. Line depth ∷ f x depth) items) → Wrote t0 t1 (lines_of depth (map f items))
lines_written depth f items t0 t1 written = wrote_as t0 t1 _ _ (sym (flat_map-map (λ (item : Layout). Line depth ∷ item depth) f items)) written

-- one more line
pub line_written : (depth : ℕ) (marks : Marks) (t0 t1 t2 : List ℕ) → Wrote t0 t1 (Line depth ∷ []) → Wrote t1 t2 marks → Wrote t0 t2 (Line depth ∷ marks)
line_written depth marks t0 t1 t2 line written = wrote_then t0 t1 t2 (Line depth ∷ []) marks line written

-- a condition and its block, behind `if`
abbrev arm_at : ℕ → Expr × Block → Marks
arm_at depth arm = arm_marks (word_mark word.If) depth (arm.0, block_marks arm.1)

-- what stands before an arm that has so many others in front of it
abbrev pub before_arm : ℕ → Marks
before_arm i = lead otherwise i ++ word_mark word.If ∷ Space ∷ []

-- the arms so far, and the text that goes before the next one
pub record Arms (arms : List (Expr × Block)) (depth i : ℕ) (opening start now : List ℕ) : Type 0 where
  pub so_far : Wrote start now (joined otherwise (map (arm_at depth) (take i arms)))
  pub opens : opening ≡ text_of (before_arm i)

pub one_arm_more : (arms : List (Expr × Block)) (depth i : ℕ) (arm : Expr × Block) (opening start t1 t2 t3 t4 : List ℕ) → Arms arms depth i opening start t1 → i < length arms → arm ≡ get_or arms i arm
    → t2 ≡ t1 ++ opening → Wrote t2 t3 (condition_marks arm.0) → Wrote t3 t4 (block_marks arm.1 depth) → Arms arms depth (i + 1) (codes " else if ") start t4
one_arm_more arms depth i arm opening start t1 t2 t3 t4 before inside item opened condition block =
    let guarded : Wrote t2 t4 (expr_marks arm.0 ++ Space ∷ block_marks arm.1 depth) = guarded_written arm.0 arm.1 depth t2 t3 t4 condition block in
    record {
      so_far = wrote_as start t4 _ _ (sym (ap (λ k. joined otherwise (map (arm_at depth) (take k arms))) (add-one i) ∙ joined_more otherwise (arm_at depth) arms i arm inside item))
          (wrote_then start t1 t4 (joined otherwise (map (arm_at depth) (take i arms))) (lead otherwise i ++ arm_at depth arm) before.so_far
          (wrote_as t1 t4 _ (lead otherwise i ++ arm_at depth arm) (append_assoc (lead otherwise i) (word_mark word.If ∷ Space ∷ []) (expr_marks arm.0 ++ Space ∷ block_marks arm.1 depth))
          (wrote_then t1 t2 t4 (before_arm i) (expr_marks arm.0 ++ Space ∷ block_marks arm.1 depth) (opened ∙ ap (λ t. t1 ++ t) before.opens) guarded)));
      opens = ap (λ k. text_of (before_arm k)) (sym (add-one i));
    }

pub no_arm_yet : (arms : List (Expr × Block)) (depth : ℕ) (start : List ℕ) → Arms arms depth 0 (codes "if ") start start
no_arm_yet arms depth start = record {
  so_far = sym (append-nil start);
  opens = refl;
}

-- all arms, and the last block
pub if_written : {A E : Type 0} (r : Result A E) (s : Stmt) (arms : List (Expr × Block)) (last : Option Block) (depth i : ℕ) (opening t0 t1 t2 : List ℕ) → s ≡ stmt.If arms last → Arms arms depth i opening t0 t1 → length arms ≤ i
    → OnOk r (Wrote t1 t2 (last_marks depth (option_map block_marks last))) → OnOk r (Wrote t0 t2 (stmt_marks s depth))
if_written r s arms last depth i opening t0 t1 t2 is each ended end =
    let all = wrote_as t0 t1 _ _ (ap (λ xs. joined otherwise (map (arm_at depth) xs)) (take_all i arms ended) ∙ ap (joined otherwise) (sym (map_twice (arm_marks (word_mark word.If) depth) (λ (arm : Expr × Block). (arm.0, block_marks arm.1)) arms))) each.so_far in
    written_then r t0 t1 t2 (joined otherwise (map (arm_marks (word_mark word.If) depth) (map (λ (arm : Expr × Block). (arm.0, block_marks arm.1)) arms))) (last_marks depth (option_map block_marks last)) (stmt_marks s depth)
    (stmt_as s (stmt.If arms last) depth _ is (marks_if arms last depth)) all end

pub last_written : {A E : Type 0} (r : Result A E) (last : Option Block) (block : Block) (depth : ℕ) (t0 t1 t2 : List ℕ) → last ≡ Some block → Wrote t0 t1 otherwise → OnOk r (Wrote t1 t2 (block_marks block depth)) → OnOk r (Wrote t0 t2 (last_marks depth (option_map block_marks last)))
last_written r last block depth t0 t1 t2 is first body =
    written_then r t0 t1 t2 otherwise (block_marks block depth) (last_marks depth (option_map block_marks last)) (ap (λ l. last_marks depth (option_map block_marks l)) (sym is)) first body
