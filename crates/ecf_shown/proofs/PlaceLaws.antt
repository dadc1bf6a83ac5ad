-- Trees that are the same but for places are shown alike, since no place is shown.
use Rattle.std.proofs.Common.{◌≡◌, ℕ, ◌+◌, List, [], ◌∷◌, ◌++◌, map, Option, Some, None, refl, ap, sym, subst, ◌∙◌}
use Rattle.std.specs.List.{flat_map}
use Rattle.std.specs.Option.{option_map}
use Rattle.ecf_grammar.specs.declared.tokens.Word.TheVariants as word
use Rattle.ecf_lang.specs.declared.tree.Op.{Op}
use Rattle.ecf_lang.specs.declared.tree.Const.{Const}
use Rattle.ecf_lang.specs.declared.tree.Const.TheVariants as const
use Rattle.ecf_lang.specs.declared.tree.Expr.{Expr, Expr-F, roll-Expr, fold-roll-Expr, map-Expr, ind-Expr}
use Rattle.ecf_lang.specs.declared.tree.CallExpr.{CallExpr, CallExpr-F, roll-CallExpr, fold-roll-CallExpr, map-CallExpr, ind-CallExpr}
use Rattle.ecf_lang.specs.declared.tree.Stmt.{Stmt, Stmt-F, roll-Stmt, fold-roll-Stmt, map-Stmt}
use Rattle.ecf_lang.specs.declared.tree.Block.{Block, Block-F, roll-Block, fold-roll-Block, map-Block, ind-Block}
use Rattle.ecf_lang.specs.declared.tree.Member.{Member}
use Rattle.ecf_lang.specs.declared.tree.Member.TheVariants as member
use Rattle.ecf_lang.specs.declared.tree.ObjectDecl.{ObjectDecl}
use Rattle.ecf_lang.specs.declared.tree.Tree.{Tree}
use Rattle.ecf_grammar.specs.declared.tokens.Sign.TheVariants as sign
use Rattle.ecf_show.specs.Marks.{Marks, name_mark, word_mark, sign_mark, spaced, comma, joined, in_parentheses, in_brackets, text_of}
use Rattle.ecf_show.specs.Marks.Mark.{Space, Line}
use Rattle.ecf_show.specs.Expressions.{Shown, ShownCall, shown, shown_call, expr_step, call_step, expr_marks}
use Rattle.ecf_show.specs.Statements.{Layout, lines_of, braced, type_mark, declared, semicolon, assigned, arm_marks, otherwise, last_marks, stmt_marks, block_marks, stmt_step, block_step}
use Rattle.ecf_show.specs.Files.{const_mark, first_marks, entry_marks, entries_marks, param_marks, member_marks, object_marks, tree_text}
use Rattle.ecf_show.specs.Forms.{shown_number, shown_flag, shown_here, shown_name, shown_at, shown_called, shown_not, shown_product, shown_sum, shown_compare, shown_and, shown_or, shown_external, shown_internal, marks_let, marks_try, marks_set, marks_set_at, marks_while, marks_return, marks_revert, marks_do, marks_if}
use Rattle.ecf_shown.specs.Places.{expr_without, call_without, stmt_without, block_without, expr_at_zero, call_at_zero, stmt_at_zero, const_without, param_without, member_without, object_without, without_places}
use Rattle.ecf_shown.specs.Written.{OneText}
use Rattle.ecf_shown.proofs.SayLaws.{both_alike}

-- ---- one layer of an expression or a call, shown and without places

shown_layer : (e : Expr-F CallExpr Expr) → shown (roll-Expr e) ≡ expr_step (map-Expr _ _ _ _ shown_call shown e)
unfolding shown shown_call
shown_layer e = fold-roll-Expr ShownCall Shown call_step expr_step e

call_layer : (c : CallExpr-F CallExpr Expr) → shown_call (roll-CallExpr c) ≡ call_step (map-CallExpr _ _ _ _ shown_call shown c)
unfolding shown shown_call
call_layer c = fold-roll-CallExpr ShownCall Shown call_step expr_step c

without_layer : (e : Expr-F CallExpr Expr) → expr_without (roll-Expr e) ≡ expr_at_zero (map-Expr _ _ _ _ call_without expr_without e)
unfolding expr_without call_without
without_layer e = fold-roll-Expr CallExpr Expr call_at_zero expr_at_zero e

without_call_layer : (c : CallExpr-F CallExpr Expr) → call_without (roll-CallExpr c) ≡ call_at_zero (map-CallExpr _ _ _ _ call_without expr_without c)
unfolding expr_without call_without
without_call_layer c = fold-roll-CallExpr CallExpr Expr call_at_zero expr_at_zero c

abbrev Keeps : Expr → Type 0
Keeps e = shown (expr_without e) ≡ shown e

abbrev KeepsCall : CallExpr → Type 0
KeepsCall c = shown_call (call_without c) ≡ shown_call c

-- an expression with what is known of it
abbrev Kept : Type 0
Kept = (e : Expr) × Keeps e

abbrev KeptCall : Type 0
KeptCall = (c : CallExpr) × KeepsCall c

abbrev shown_with : Op → Shown → Op × Shown
shown_with o s = (o, s)

parts_keep : (parts : List Kept) → map shown (map expr_without (map (λ (p : Kept). p.0) parts)) ≡ map shown (map (λ (p : Kept). p.0) parts)
parts_keep [] = refl
parts_keep (p ∷ ps) = both_alike p.1 (parts_keep ps)

further_keep : (rest : List (Op × Kept)) → map {B = Op × Shown} (λ (p : Op × Expr). (p.0, shown p.1)) (map {B = Op × Expr} (λ (p : Op × Expr). (p.0, expr_without p.1)) (map {B = Op × Expr} (λ (p : Op × Kept). (p.0, p.1.0)) rest)) ≡ map {B = Op × Shown} (λ (p : Op × Expr). (p.0, shown p.1)) (map {B = Op × Expr} (λ (p : Op × Kept). (p.0, p.1.0)) rest)
further_keep [] = refl
further_keep (p ∷ ps) = both_alike (ap (shown_with p.0) p.1.1) (further_keep ps)

expr_layer_keeps : (y : Expr-F KeptCall Kept) → Keeps (roll-Expr (map-Expr _ _ _ _ (λ (c : KeptCall). c.0) (λ (e : Kept). e.0) y))
expr_layer_keeps (Expr-F.Number at value) = ap shown (without_layer _) ∙ shown_number 0 value ∙ sym (shown_layer _)
expr_layer_keeps (Expr-F.Flag at value) = ap shown (without_layer _) ∙ shown_flag 0 value ∙ sym (shown_layer _)
expr_layer_keeps (Expr-F.Here at) = ap shown (without_layer _) ∙ shown_here 0 ∙ sym (shown_layer _)
expr_layer_keeps (Expr-F.Name at name) = ap shown (without_layer _) ∙ shown_name 0 name ∙ sym (shown_layer _)
expr_layer_keeps (Expr-F.At at name key) = ap shown (without_layer _) ∙ shown_at 0 name _ ∙ ap (λ s. expr_step (Expr-F.At 0 name s)) key.1 ∙ sym (shown_layer _)
expr_layer_keeps (Expr-F.Call call) = ap shown (without_layer _) ∙ shown_called _ ∙ ap (λ s. expr_step (Expr-F.Call s)) call.1 ∙ sym (shown_layer _)
expr_layer_keeps (Expr-F.Not at inner) = ap shown (without_layer _) ∙ shown_not 0 _ ∙ ap (λ s. expr_step (Expr-F.Not 0 s)) inner.1 ∙ sym (shown_layer _)
expr_layer_keeps (Expr-F.Product first rest) =
    ap shown (without_layer _) ∙ shown_product _ _ ∙ ap (λ s. expr_step (Expr-F.Product s (map (λ (p : Op × Expr). (p.0, shown p.1)) (map (λ (p : Op × Expr). (p.0, expr_without p.1)) (map (λ (p : Op × Kept). (p.0, p.1.0)) rest))))) first.1
    ∙ ap (λ ss. expr_step (Expr-F.Product (shown first.0) ss)) (further_keep rest) ∙ sym (shown_layer _)
expr_layer_keeps (Expr-F.Sum first rest) =
    ap shown (without_layer _) ∙ shown_sum _ _ ∙ ap (λ s. expr_step (Expr-F.Sum s (map (λ (p : Op × Expr). (p.0, shown p.1)) (map (λ (p : Op × Expr). (p.0, expr_without p.1)) (map (λ (p : Op × Kept). (p.0, p.1.0)) rest))))) first.1
    ∙ ap (λ ss. expr_step (Expr-F.Sum (shown first.0) ss)) (further_keep rest) ∙ sym (shown_layer _)
expr_layer_keeps (Expr-F.Compare left op right) =
    ap shown (without_layer _) ∙ shown_compare _ op _ ∙ ap (λ s. expr_step (Expr-F.Compare s op (shown (expr_without right.0)))) left.1
    ∙ ap (λ s. expr_step (Expr-F.Compare (shown left.0) op s)) right.1 ∙ sym (shown_layer _)
expr_layer_keeps (Expr-F.And parts) = ap shown (without_layer _) ∙ shown_and _ ∙ ap (λ ss. expr_step (Expr-F.And ss)) (parts_keep parts) ∙ sym (shown_layer _)
expr_layer_keeps (Expr-F.Or parts) = ap shown (without_layer _) ∙ shown_or _ ∙ ap (λ ss. expr_step (Expr-F.Or ss)) (parts_keep parts) ∙ sym (shown_layer _)

call_layer_keeps : (y : CallExpr-F KeptCall Kept) → KeepsCall (roll-CallExpr (map-CallExpr _ _ _ _ (λ (c : KeptCall). c.0) (λ (e : Kept). e.0) y))
call_layer_keeps (CallExpr-F.External at target name_at name args) =
    ap shown_call (without_call_layer _) ∙ shown_external 0 _ 0 name _ ∙ ap (λ s. call_step (CallExpr-F.External 0 s 0 name (map shown (map expr_without (map (λ (p : Kept). p.0) args))))) target.1
    ∙ ap (λ ss. call_step (CallExpr-F.External 0 (shown target.0) 0 name ss)) (parts_keep args) ∙ sym (call_layer _)
call_layer_keeps (CallExpr-F.Internal at name_at name args) =
    ap shown_call (without_call_layer _) ∙ shown_internal 0 0 name _ ∙ ap (λ ss. call_step (CallExpr-F.Internal 0 0 name ss)) (parts_keep args) ∙ sym (call_layer _)

expr_keeps : (e : Expr) → Keeps e
expr_keeps = ind-Expr KeepsCall Keeps (λ x y is. subst (λ l. KeepsCall (roll-CallExpr l)) is (call_layer_keeps y)) (λ x y is. subst (λ l. Keeps (roll-Expr l)) is (expr_layer_keeps y))

call_keeps : (c : CallExpr) → KeepsCall c
call_keeps = ind-CallExpr KeepsCall Keeps (λ x y is. subst (λ l. KeepsCall (roll-CallExpr l)) is (call_layer_keeps y)) (λ x y is. subst (λ l. Keeps (roll-Expr l)) is (expr_layer_keeps y))

marks_keep : (e : Expr) → expr_marks (expr_without e) ≡ expr_marks e
marks_keep e = ap (λ (s : Shown). s.marks) (expr_keeps e)

-- ---- statements and blocks

abbrev KeepsStmt : Stmt → Type 0
KeepsStmt s = (depth : ℕ) → stmt_marks (stmt_without s) depth ≡ stmt_marks s depth

abbrev KeepsBlock : Block → Type 0
KeepsBlock b = (depth : ℕ) → block_marks (block_without b) depth ≡ block_marks b depth

abbrev KeptStmt : Type 0
KeptStmt = (s : Stmt) × KeepsStmt s

abbrev KeptBlock : Type 0
KeptBlock = (b : Block) × KeepsBlock b

stmt_layer : (s : Stmt-F Stmt Block) (depth : ℕ) → stmt_marks (roll-Stmt s) depth ≡ stmt_step (map-Stmt _ _ _ _ stmt_marks block_marks s) depth
unfolding stmt_marks block_marks
stmt_layer s depth = ap (λ f. f depth) (fold-roll-Stmt Layout Layout stmt_step block_step s)

block_layer : (b : Block-F Stmt Block) (depth : ℕ) → block_marks (roll-Block b) depth ≡ block_step (map-Block _ _ _ _ stmt_marks block_marks b) depth
unfolding stmt_marks block_marks
block_layer b depth = ap (λ f. f depth) (fold-roll-Block Layout Layout stmt_step block_step b)

without_stmt_layer : (s : Stmt-F Stmt Block) → stmt_without (roll-Stmt s) ≡ stmt_at_zero (map-Stmt _ _ _ _ stmt_without block_without s)
unfolding stmt_without block_without
without_stmt_layer s = fold-roll-Stmt Stmt Block stmt_at_zero roll-Block s

without_block_layer : (b : Block-F Stmt Block) → block_without (roll-Block b) ≡ roll-Block (map-Block _ _ _ _ stmt_without block_without b)
unfolding stmt_without block_without
without_block_layer b = fold-roll-Block Stmt Block stmt_at_zero roll-Block b

abbrev arm_layout : Expr × Block → Expr × Layout
arm_layout arm = (arm.0, block_marks arm.1)

-- an arm as it is shown
abbrev shown_arm : ℕ → Expr × Block → Marks
shown_arm depth arm = arm_marks (word_mark word.If) depth (arm_layout arm)

arms_fuse : (depth : ℕ) (arms : List (Expr × Block)) → map (arm_marks (word_mark word.If) depth) (map {B = Expr × Layout} (λ (arm : Expr × Block). (arm.0, block_marks arm.1)) arms) ≡ map (shown_arm depth) arms
arms_fuse depth [] = refl
arms_fuse depth (arm ∷ arms) = ap (λ more. shown_arm depth arm ∷ more) (arms_fuse depth arms)

-- arms with what is known of their blocks
abbrev KeptArm : Type 0
KeptArm = Expr × KeptBlock

abbrev arm_before : KeptArm → Expr × Block
arm_before arm = (arm.0, arm.1.0)

abbrev arm_after : KeptArm → Expr × Block
arm_after arm = (expr_without arm.0, block_without arm.1.0)

arm_keeps : (depth : ℕ) (arm : KeptArm) → shown_arm depth (arm_after arm) ≡ shown_arm depth (arm_before arm)
arm_keeps depth arm =
    ap (λ ms. word_mark word.If ∷ Space ∷ ms ++ Space ∷ block_marks (block_without arm.1.0) depth) (marks_keep arm.0)
    ∙ ap (λ ms. word_mark word.If ∷ Space ∷ expr_marks arm.0 ++ Space ∷ ms) (arm.1.1 depth)

arms_keep : (depth : ℕ) (arms : List KeptArm) → map (shown_arm depth) (map arm_after arms) ≡ map (shown_arm depth) (map arm_before arms)
arms_keep depth [] = refl
arms_keep depth (arm ∷ arms) = both_alike (arm_keeps depth arm) (arms_keep depth arms)

-- the arms of a form, before and after
arms_after : (arms : List KeptArm) → map {B = Expr × Block} (λ (arm : Expr × Block). (expr_without arm.0, arm.1)) (map {B = Expr × Block} (λ (arm : Expr × Block). (arm.0, block_without arm.1)) (map {B = Expr × Block} (λ (arm : KeptArm). (arm.0, arm.1.0)) arms)) ≡ map arm_after arms
arms_after [] = refl
arms_after (arm ∷ arms) = ap (λ more. arm_after arm ∷ more) (arms_after arms)

arms_before : (arms : List KeptArm) → map {B = Expr × Block} (λ (arm : KeptArm). (arm.0, arm.1.0)) arms ≡ map arm_before arms
arms_before [] = refl
arms_before (arm ∷ arms) = ap (λ more. arm_before arm ∷ more) (arms_before arms)

last_keeps : (depth : ℕ) (last : Option KeptBlock) → last_marks depth (option_map block_marks (option_map block_without (option_map (λ (b : KeptBlock). b.0) last))) ≡ last_marks depth (option_map block_marks (option_map (λ (b : KeptBlock). b.0) last))
last_keeps depth None = refl
last_keeps depth (Some b) = ap (λ ms. otherwise ++ ms) (b.1 depth)

-- arms and a last block as they are shown
abbrev if_marks : ℕ → List (Expr × Block) → Option Block → Marks
if_marks depth arms last = joined otherwise (map (arm_marks (word_mark word.If) depth) (map (λ (arm : Expr × Block). (arm.0, block_marks arm.1)) arms)) ++ last_marks depth (option_map block_marks last)

abbrev last_before : Option KeptBlock → Option Block
last_before last = option_map (λ (b : KeptBlock). b.0) last

if_keeps : (depth : ℕ) (arms : List KeptArm) (last : Option KeptBlock)
    → if_marks depth (map (λ (arm : Expr × Block). (expr_without arm.0, arm.1)) (map (λ (arm : Expr × Block). (arm.0, block_without arm.1)) (map (λ (arm : KeptArm). (arm.0, arm.1.0)) arms))) (option_map block_without (last_before last))
    ≡ if_marks depth (map (λ (arm : KeptArm). (arm.0, arm.1.0)) arms) (last_before last)
if_keeps depth arms last =
    ap (λ ps. if_marks depth ps (option_map block_without (last_before last))) (arms_after arms)
    ∙ ap (λ ms. joined otherwise ms ++ last_marks depth (option_map block_marks (option_map block_without (last_before last)))) (arms_fuse depth (map arm_after arms) ∙ arms_keep depth arms ∙ sym (arms_fuse depth (map arm_before arms)))
    ∙ ap (λ ms. joined otherwise (map (arm_marks (word_mark word.If) depth) (map (λ (arm : Expr × Block). (arm.0, block_marks arm.1)) (map arm_before arms))) ++ ms) (last_keeps depth last)
    ∙ ap (λ ps. if_marks depth ps (last_before last)) (sym (arms_before arms))

stmt_layer_keeps : (y : Stmt-F KeptStmt KeptBlock) → KeepsStmt (roll-Stmt (map-Stmt _ _ _ _ (λ (s : KeptStmt). s.0) (λ (b : KeptBlock). b.0) y))
stmt_layer_keeps (Stmt-F.Let at name ty value) depth =
    ap (λ s. stmt_marks s depth) (without_stmt_layer _) ∙ marks_let 0 name ty _ depth ∙ ap (λ ms. word_mark word.Let ∷ Space ∷ declared name ty ++ assigned ms) (marks_keep value) ∙ sym (stmt_layer _ depth)
stmt_layer_keeps (Stmt-F.Try at name ty call) depth =
    ap (λ s. stmt_marks s depth) (without_stmt_layer _) ∙ marks_try 0 name ty _ depth
    ∙ ap (λ (c : ShownCall). word_mark word.Let ∷ Space ∷ declared name ty ++ assigned (word_mark word.Try ∷ Space ∷ c.tried)) (call_keeps call) ∙ sym (stmt_layer _ depth)
stmt_layer_keeps (Stmt-F.Set at name value) depth =
    ap (λ s. stmt_marks s depth) (without_stmt_layer _) ∙ marks_set 0 name _ depth ∙ ap (λ ms. name_mark name ∷ assigned ms) (marks_keep value) ∙ sym (stmt_layer _ depth)
stmt_layer_keeps (Stmt-F.SetAt at name key value) depth =
    ap (λ s. stmt_marks s depth) (without_stmt_layer _) ∙ marks_set_at 0 name _ _ depth
    ∙ ap (λ ms. name_mark name ∷ in_brackets ms ++ assigned (expr_marks (expr_without value))) (marks_keep key)
    ∙ ap (λ ms. name_mark name ∷ in_brackets (expr_marks key) ++ assigned ms) (marks_keep value) ∙ sym (stmt_layer _ depth)
stmt_layer_keeps (Stmt-F.If arms None) depth = ap (λ s. stmt_marks s depth) (without_stmt_layer _) ∙ marks_if _ None depth ∙ if_keeps depth arms None ∙ sym (stmt_layer _ depth)
stmt_layer_keeps (Stmt-F.If arms (Some last)) depth = ap (λ s. stmt_marks s depth) (without_stmt_layer _) ∙ marks_if _ (Some (block_without last.0)) depth ∙ if_keeps depth arms (Some last) ∙ sym (stmt_layer _ depth)
stmt_layer_keeps (Stmt-F.While cond body) depth =
    ap (λ s. stmt_marks s depth) (without_stmt_layer _) ∙ marks_while _ _ depth
    ∙ ap (λ ms. word_mark word.While ∷ Space ∷ ms ++ Space ∷ block_marks (block_without body.0) depth) (marks_keep cond)
    ∙ ap (λ ms. word_mark word.While ∷ Space ∷ expr_marks cond ++ Space ∷ ms) (body.1 depth) ∙ sym (stmt_layer _ depth)
stmt_layer_keeps (Stmt-F.Return value) depth =
    ap (λ s. stmt_marks s depth) (without_stmt_layer _) ∙ marks_return _ depth ∙ ap (λ ms. word_mark word.Return ∷ Space ∷ ms ++ semicolon) (marks_keep value) ∙ sym (stmt_layer _ depth)
stmt_layer_keeps (Stmt-F.Revert value) depth =
    ap (λ s. stmt_marks s depth) (without_stmt_layer _) ∙ marks_revert _ depth ∙ ap (λ ms. word_mark word.Revert ∷ Space ∷ ms ++ semicolon) (marks_keep value) ∙ sym (stmt_layer _ depth)
stmt_layer_keeps (Stmt-F.Do call) depth =
    ap (λ s. stmt_marks s depth) (without_stmt_layer _) ∙ marks_do _ depth ∙ ap (λ (c : ShownCall). c.marks ++ semicolon) (call_keeps call) ∙ sym (stmt_layer _ depth)

lines_keep : (depth : ℕ) (stmts : List KeptStmt) → lines_of depth (map stmt_marks (map stmt_without (map (λ (s : KeptStmt). s.0) stmts))) ≡ lines_of depth (map stmt_marks (map (λ (s : KeptStmt). s.0) stmts))
lines_keep depth [] = refl
lines_keep depth (s ∷ ss) =
    ap (λ ms. (Line depth ∷ ms) ++ lines_of depth (map stmt_marks (map stmt_without (map (λ (x : KeptStmt). x.0) ss)))) (s.1 depth)
    ∙ ap (λ ms. (Line depth ∷ stmt_marks s.0 depth) ++ ms) (lines_keep depth ss)

braces_keep : (depth : ℕ) (stmts : List KeptStmt) → braced depth (map stmt_marks (map stmt_without (map (λ (s : KeptStmt). s.0) stmts))) ≡ braced depth (map stmt_marks (map (λ (s : KeptStmt). s.0) stmts))
braces_keep depth [] = refl
braces_keep depth (s ∷ ss) = ap (λ ms. sign_mark sign.OpenBrace ∷ ms ++ Line depth ∷ sign_mark sign.CloseBrace ∷ []) (lines_keep (depth + 1) (s ∷ ss))

block_layer_keeps : (y : Block-F KeptStmt KeptBlock) → KeepsBlock (roll-Block (map-Block _ _ _ _ (λ (s : KeptStmt). s.0) (λ (b : KeptBlock). b.0) y))
block_layer_keeps y depth = ap (λ b. block_marks b depth) (without_block_layer _) ∙ block_layer _ depth ∙ braces_keep depth y.stmts ∙ sym (block_layer _ depth)

block_keeps : (b : Block) → KeepsBlock b
block_keeps = ind-Block KeepsStmt KeepsBlock (λ x y is. subst (λ l. KeepsStmt (roll-Stmt l)) is (stmt_layer_keeps y)) (λ x y is. subst (λ l. KeepsBlock (roll-Block l)) is (block_layer_keeps y))

-- ---- files

const_keeps : (value : Const) → const_mark (const_without value) ≡ const_mark value
const_keeps (const.Number at value) = refl
const_keeps (const.Flag at value) = refl
const_keeps (const.Name at name) = refl

first_keeps : (first : Option Const) → first_marks (option_map const_without first) ≡ first_marks first
first_keeps None = refl
first_keeps (Some value) = ap (λ m. spaced sign.Assign ++ m ∷ []) (const_keeps value)

abbrev entry_without : Const × Const → Const × Const
entry_without entry = (const_without entry.0, const_without entry.1)

entry_keeps : (entry : Const × Const) → entry_marks (entry_without entry) ≡ entry_marks entry
entry_keeps entry =
    ap (λ m. m ∷ sign_mark sign.Colon ∷ Space ∷ const_mark (const_without entry.1) ∷ []) (const_keeps entry.0)
    ∙ ap (λ m. const_mark entry.0 ∷ sign_mark sign.Colon ∷ Space ∷ m ∷ []) (const_keeps entry.1)

-- what each item keeps, a list of them keeps
list_keeps : {A : Type 0} (without : A → A) (show : A → Marks) → ((x : A) → show (without x) ≡ show x) → (xs : List A) → map show (map without xs) ≡ map show xs
list_keeps without show keeps [] = refl
list_keeps without show keeps (x ∷ xs) = both_alike (keeps x) (list_keeps without show keeps xs)

entries_keep : (entries : List (Const × Const)) → entries_marks (map entry_without entries) ≡ entries_marks entries
entries_keep [] = refl
entries_keep (e ∷ es) = ap (λ ms. spaced sign.Assign ++ sign_mark sign.OpenBrace ∷ Space ∷ joined comma ms ++ Space ∷ sign_mark sign.CloseBrace ∷ []) (list_keeps entry_without entry_marks entry_keeps (e ∷ es))

member_keeps : (m : Member) → member_marks (member_without m) ≡ member_marks m
member_keeps (member.Field at bytes kind value) = ap (λ ms. type_mark kind ∷ Space ∷ name_mark bytes ∷ ms ++ semicolon) (first_keeps value)
member_keeps (member.Map at bytes key value entries) = ap (λ ms. word_mark word.Map ∷ Space ∷ declared bytes key ++ spaced sign.Arrow ++ type_mark value ∷ ms ++ semicolon) (entries_keep entries)
member_keeps (member.Method at bytes params answer body) =
    ap (λ ms. word_mark word.Method ∷ Space ∷ name_mark bytes ∷ in_parentheses (joined comma ms) ++ sign_mark sign.Colon ∷ Space ∷ type_mark answer ∷ Space ∷ block_marks (block_without body) 1) (list_keeps param_without param_marks (λ p. refl) params)
    ∙ ap (λ ms. word_mark word.Method ∷ Space ∷ name_mark bytes ∷ in_parentheses (joined comma (map param_marks params)) ++ sign_mark sign.Colon ∷ Space ∷ type_mark answer ∷ Space ∷ ms) (block_keeps body 1)

members_keep : (members : List Member) → lines_of 1 (map (λ m depth. member_marks m) (map member_without members)) ≡ lines_of 1 (map (λ m depth. member_marks m) members)
members_keep [] = refl
members_keep (m ∷ ms) =
    ap (λ marks. (Line 1 ∷ marks) ++ lines_of 1 (map (λ x depth. member_marks x) (map member_without ms))) (member_keeps m)
    ∙ ap (λ marks. (Line 1 ∷ member_marks m) ++ marks) (members_keep ms)

object_braces_keep : (members : List Member) → braced 0 (map (λ m depth. member_marks m) (map member_without members)) ≡ braced 0 (map (λ m depth. member_marks m) members)
object_braces_keep [] = refl
object_braces_keep (m ∷ ms) = ap (λ marks. sign_mark sign.OpenBrace ∷ marks ++ Line 0 ∷ sign_mark sign.CloseBrace ∷ []) (members_keep (m ∷ ms))

objects_keep : (objects : List ObjectDecl) → flat_map object_marks (map object_without objects) ≡ flat_map object_marks objects
objects_keep [] = refl
objects_keep (o ∷ os) =
    ap (λ ms. (word_mark word.Object ∷ Space ∷ name_mark o.name ∷ Space ∷ ms ++ Line 0 ∷ []) ++ flat_map object_marks (map object_without os)) (object_braces_keep o.members)
    ∙ ap (λ ms. object_marks o ++ ms) (objects_keep os)

tree_keeps : (tree : Tree) → tree_text (without_places tree) ≡ tree_text tree
tree_keeps tree = ap text_of (objects_keep tree.objects)

pub one_text : OneText
one_text tree other alike = sym (tree_keeps tree) ∙ ap tree_text alike ∙ tree_keeps other
