-- Each statement that is spelled is read back from what is shown of it, and so is each block.
use Rattle.std.proofs.Common.{◌≡◌, ℕ, ◌+◌, List, [], ◌∷◌, ◌++◌, map, Option, Some, None, refl, sym, ap, subst, ◌∙◌, append_assoc}
use Rattle.std.specs.List.{AllByRecursion, flat_map}
use Rattle.std.specs.Option.{option_map}
use Rattle.ecf_grammar.specs.declared.tokens.Word.{Word}
use Rattle.ecf_grammar.specs.declared.tokens.Word.TheVariants as word
use Rattle.ecf_grammar.specs.declared.tokens.Sign.TheVariants as sign
use Rattle.ecf_grammar.specs.Spelling.{IsName}
use Rattle.ecf_grammar.specs.Lexemes.{NumberedLexemes}
use Rattle.ecf_grammar.specs.Lexemes.Lexeme.{NameOf, WordOf, SignOf}
use Rattle.ecf_grammar.specs.Spells.{SpellsType, SpellsBlock, SpellsStmts, SpellsStmt, SpellsArm, SpellsElse}
use Rattle.ecf_grammar.specs.Spells.Is.{is}
use Rattle.ecf_lang.specs.declared.tree.Ty.{Ty}
use Rattle.ecf_lang.specs.declared.tree.Ty.TheVariants as ty
use Rattle.ecf_lang.specs.declared.tree.Expr.{Expr}
use Rattle.ecf_lang.specs.declared.tree.CallExpr.{CallExpr}
use Rattle.ecf_lang.specs.declared.tree.Stmt.{Stmt}
use Rattle.ecf_lang.specs.declared.tree.Stmt.TheVariants as stmt
use Rattle.ecf_lang.specs.declared.tree.Block.{Block, roll-Block}
use Rattle.ecf_show.specs.Marks.{Marks, name_mark, word_mark, sign_mark, spaced}
use Rattle.ecf_show.specs.Marks.Mark.{Space, Line}
use Rattle.ecf_show.specs.Expressions.{shown_call, expr_marks, call_marks}
use Rattle.ecf_show.specs.Statements.{Layout, lines_of, type_mark, declared, semicolon, assigned, arm_marks, otherwise, last_marks, stmt_marks, block_marks}
use Rattle.ecf_show.specs.Forms.{marks_let, marks_try, marks_set, marks_set_at, marks_while, marks_return, marks_revert, marks_do, marks_if, marks_rolled}
use Rattle.ecf_shown.specs.Places.{expr_without, stmt_without, block_without}
use Rattle.ecf_shown.proofs.PlaceForms.{without_let, without_try, without_set, without_set_at, without_while, without_return, without_revert, without_do, without_if, without_block}
use Rattle.ecf_shown.proofs.SayLaws.{token, numbered, number_behind, numbered_append, AreValid, front, behind, valid_of, Stands, Follows, stands_then, follows_then, follows_none, stands_where_follows, follows_space, follows_line, follows_sign, follows_spaced, stands_word, stands_name, stands_none, Says, GoesOn, both_alike}
use Rattle.ecf_shown.proofs.ExpressionLaws.{IsReadBack, IsTriedBack, IsCalledBack, expr_says, expr_reads, invoke_reads, external_reads}

-- ---- types

abbrev pub type_word : Ty → Word
type_word ty.Num = word.Num
type_word ty.Flag = word.Flag
type_word ty.Addr = word.Addr

pub type_tokens : (at : ℕ) (kind : Ty) (more : Marks) → numbered at (type_mark kind ∷ more) ≡ (at, WordOf (type_word kind)) ∷ numbered (at + 1) more
type_tokens at ty.Num more = refl
type_tokens at ty.Flag more = refl
type_tokens at ty.Addr more = refl

pub type_spelled : (kind : Ty) (at : ℕ) → SpellsType ((at, WordOf (type_word kind)) ∷ []) kind
type_spelled ty.Num at = SpellsType.num (is at)
type_spelled ty.Flag at = SpellsType.flag (is at)
type_spelled ty.Addr at = SpellsType.addr (is at)

pub stands_type : {a : Marks} (kind : Ty) → Follows a → Stands (type_mark kind ∷ a)
stands_type ty.Num follows = stands_word word.Num follows
stands_type ty.Flag follows = stands_word word.Flag follows
stands_type ty.Addr follows = stands_word word.Addr follows

-- ---- ends of statements

-- a sign and a space behind it
pub follows_colon : {a : Marks} → Stands a → Follows (sign_mark sign.Colon ∷ Space ∷ a)
follows_colon stands = follows_sign sign.Colon refl (stands_where_follows (follows_space stands))

pub stands_ended : {a : Marks} → Stands a → Stands (a ++ semicolon)
stands_ended stands = stands_then stands (follows_sign sign.Semicolon refl stands_none)

-- a name and its type, and what is assigned
stands_declared : {a : Marks} (bytes : List ℕ) (kind : Ty) → IsName bytes → Stands a → Stands (declared bytes kind ++ assigned a)
stands_declared bytes kind valid stands = stands_name bytes valid (follows_colon (stands_type kind (follows_spaced sign.Assign (stands_ended stands))))

-- ---- what is known of statements and blocks

abbrev pub IsStmtBack : Stmt → Type 0
IsStmtBack s = (depth : ℕ) → Says SpellsStmt stmt_without s (stmt_marks s depth)

abbrev pub IsBlockBack : Block → Type 0
IsBlockBack b = (depth : ℕ) → Says SpellsBlock block_without b (block_marks b depth)

-- ---- statements without blocks

let_reads : (place : ℕ) (bytes : List ℕ) (kind : Ty) (value : Expr) → IsName bytes → IsReadBack value → IsStmtBack (stmt.Let place bytes kind value)
let_reads place bytes kind value valid reads depth =
    let inner = expr_says value reads in
    subst (Says SpellsStmt stmt_without (stmt.Let place bytes kind value)) (sym (marks_let place bytes kind value depth)) (record {
      stands = stands_word word.Let (follows_space (stands_declared bytes kind valid inner.stands));
      tokens = λ at.
          let name_at = at + 1 in
          let type_at = (name_at + 1) + 1 in
          let from = (type_at + 1) + 1 in
          let it = inner.tokens from in
          let tokens = type_tokens type_at kind (spaced sign.Assign ++ (expr_marks value ++ semicolon))
          ∙ ap (λ ls. token type_at (WordOf (type_word kind)) (token (type_at + 1) (SignOf sign.Assign) ls)) (numbered_append from (expr_marks value) semicolon) in
          record {
            again = stmt.Let name_at bytes kind it.again;
            spelled = subst (λ ls. SpellsStmt ((at, WordOf word.Let) ∷ (name_at, NameOf bytes) ∷ (name_at + 1, SignOf sign.Colon) ∷ ls) (stmt.Let name_at bytes kind it.again)) (sym tokens)
                (SpellsStmt.let_ (is at) (is name_at) (is (name_at + 1)) (type_spelled kind type_at) (is (type_at + 1)) it.spelled (is (number_behind from (expr_marks value))));
            alike = without_let name_at bytes kind it.again ∙ ap (λ e. stmt.Let 0 bytes kind e) it.alike ∙ sym (without_let place bytes kind value);
          };
    })

try_reads : (place : ℕ) (bytes : List ℕ) (kind : Ty) (c : CallExpr) → IsName bytes → IsTriedBack c → IsStmtBack (stmt.Try place bytes kind c)
try_reads place bytes kind c valid reads depth =
    subst (Says SpellsStmt stmt_without (stmt.Try place bytes kind c)) (sym (marks_try place bytes kind c depth)) (record {
      stands = stands_word word.Let (follows_space (stands_declared bytes kind valid (stands_word word.Try (follows_space (reads 0).stands))));
      tokens = λ at.
          let name_at = at + 1 in
          let type_at = (name_at + 1) + 1 in
          let try_at = (type_at + 1) + 1 in
          let from = try_at + 1 in
          let it = (reads try_at).tokens from in
          let tokens = type_tokens type_at kind (spaced sign.Assign ++ (word_mark word.Try ∷ Space ∷ (shown_call c).tried ++ semicolon))
          ∙ ap (λ ls. token type_at (WordOf (type_word kind)) (token (type_at + 1) (SignOf sign.Assign) (token try_at (WordOf word.Try) ls))) (numbered_append from (shown_call c).tried semicolon) in
          record {
            again = stmt.Try name_at bytes kind it.again;
            spelled = subst (λ ls. SpellsStmt ((at, WordOf word.Let) ∷ (name_at, NameOf bytes) ∷ (name_at + 1, SignOf sign.Colon) ∷ ls) (stmt.Try name_at bytes kind it.again)) (sym tokens)
                (SpellsStmt.try_ (is at) (is name_at) (is (name_at + 1)) (type_spelled kind type_at) (is (type_at + 1)) (is try_at) it.spelled (is (number_behind from (shown_call c).tried)));
            alike = without_try name_at bytes kind it.again ∙ ap (λ x. stmt.Try 0 bytes kind x) it.alike ∙ sym (without_try place bytes kind c);
          };
    })

set_reads : (place : ℕ) (bytes : List ℕ) (value : Expr) → IsName bytes → IsReadBack value → IsStmtBack (stmt.Set place bytes value)
set_reads place bytes value valid reads depth =
    let inner = expr_says value reads in
    subst (Says SpellsStmt stmt_without (stmt.Set place bytes value)) (sym (marks_set place bytes value depth)) (record {
      stands = stands_name bytes valid (follows_spaced sign.Assign (stands_ended inner.stands));
      tokens = λ at.
          let from = (at + 1) + 1 in
          let it = inner.tokens from in
          record {
            again = stmt.Set at bytes it.again;
            spelled = subst (λ ls. SpellsStmt ((at, NameOf bytes) ∷ (at + 1, SignOf sign.Assign) ∷ ls) (stmt.Set at bytes it.again)) (sym (numbered_append from (expr_marks value) semicolon))
                (SpellsStmt.set (is at) (is (at + 1)) it.spelled (is (number_behind from (expr_marks value))));
            alike = without_set at bytes it.again ∙ ap (λ e. stmt.Set 0 bytes e) it.alike ∙ sym (without_set place bytes value);
          };
    })

set_at_reads : (place : ℕ) (bytes : List ℕ) (key value : Expr) → IsName bytes → IsReadBack key → IsReadBack value → IsStmtBack (stmt.SetAt place bytes key value)
set_at_reads place bytes key value valid key_reads reads depth =
    let index = expr_says key key_reads in
    let inner = expr_says value reads in
    let marks = marks_set_at place bytes key value depth ∙ ap (λ more. name_mark bytes ∷ sign_mark sign.OpenBracket ∷ more) (append_assoc (expr_marks key) (sign_mark sign.CloseBracket ∷ []) (assigned (expr_marks value))) in
    subst (Says SpellsStmt stmt_without (stmt.SetAt place bytes key value)) (sym marks) (record {
      stands = stands_name bytes valid (follows_sign sign.OpenBracket refl (stands_then index.stands (follows_sign sign.CloseBracket refl (stands_where_follows (follows_spaced sign.Assign (stands_ended inner.stands))))));
      tokens = λ at.
          let key_at = (at + 1) + 1 in
          let k = index.tokens key_at in
          let close_at = number_behind key_at (expr_marks key) in
          let from = (close_at + 1) + 1 in
          let it = inner.tokens from in
          let tokens = numbered_append key_at (expr_marks key) (sign_mark sign.CloseBracket ∷ assigned (expr_marks value))
          ∙ ap (λ ls. numbered key_at (expr_marks key) ++ token close_at (SignOf sign.CloseBracket) (token (close_at + 1) (SignOf sign.Assign) ls)) (numbered_append from (expr_marks value) semicolon) in
          record {
            again = stmt.SetAt at bytes k.again it.again;
            spelled = subst (λ ls. SpellsStmt ((at, NameOf bytes) ∷ (at + 1, SignOf sign.OpenBracket) ∷ ls) (stmt.SetAt at bytes k.again it.again)) (sym tokens)
                (SpellsStmt.set_at (is at) (is (at + 1)) k.spelled (is close_at) (is (close_at + 1)) it.spelled (is (number_behind from (expr_marks value))));
            alike = without_set_at at bytes k.again it.again ∙ ap (λ e. stmt.SetAt 0 bytes e (expr_without it.again)) k.alike ∙ ap (λ e. stmt.SetAt 0 bytes (expr_without key) e) it.alike ∙ sym (without_set_at place bytes key value);
          };
    })

return_reads : (value : Expr) → IsReadBack value → IsStmtBack (stmt.Return value)
return_reads value reads depth =
    let inner = expr_says value reads in
    subst (Says SpellsStmt stmt_without (stmt.Return value)) (sym (marks_return value depth)) (record {
      stands = stands_word word.Return (follows_space (stands_ended inner.stands));
      tokens = λ at. let it = inner.tokens (at + 1) in record {
        again = stmt.Return it.again;
        spelled = subst (λ ls. SpellsStmt ((at, WordOf word.Return) ∷ ls) (stmt.Return it.again)) (sym (numbered_append (at + 1) (expr_marks value) semicolon))
            (SpellsStmt.return (is at) it.spelled (is (number_behind (at + 1) (expr_marks value))));
        alike = without_return it.again ∙ ap (λ e. stmt.Return e) it.alike ∙ sym (without_return value);
      };
    })

revert_reads : (value : Expr) → IsReadBack value → IsStmtBack (stmt.Revert value)
revert_reads value reads depth =
    let inner = expr_says value reads in
    subst (Says SpellsStmt stmt_without (stmt.Revert value)) (sym (marks_revert value depth)) (record {
      stands = stands_word word.Revert (follows_space (stands_ended inner.stands));
      tokens = λ at. let it = inner.tokens (at + 1) in record {
        again = stmt.Revert it.again;
        spelled = subst (λ ls. SpellsStmt ((at, WordOf word.Revert) ∷ ls) (stmt.Revert it.again)) (sym (numbered_append (at + 1) (expr_marks value) semicolon))
            (SpellsStmt.revert (is at) it.spelled (is (number_behind (at + 1) (expr_marks value))));
        alike = without_revert it.again ∙ ap (λ e. stmt.Revert e) it.alike ∙ sym (without_revert value);
      };
    })

do_reads : (c : CallExpr) → IsCalledBack c → IsStmtBack (stmt.Do c)
do_reads c reads depth =
    subst (Says SpellsStmt stmt_without (stmt.Do c)) (sym (marks_do c depth)) (record {
      stands = stands_ended reads.stands;
      tokens = λ at. let it = reads.tokens at in record {
        again = stmt.Do it.again;
        spelled = subst (λ ls. SpellsStmt ls (stmt.Do it.again)) (sym (numbered_append at (call_marks c) semicolon)) (SpellsStmt.do_ it.spelled (is (number_behind at (call_marks c))));
        alike = without_do it.again ∙ ap (λ x. stmt.Do x) it.alike ∙ sym (without_do c);
      };
    })

-- ---- arms

abbrev Arm : Type 0
Arm = Expr × Block

-- a condition and the block that it guards, behind the word that begins them
abbrev arm_text : ℕ → Arm → Marks
arm_text depth arm = expr_marks arm.0 ++ Space ∷ block_marks arm.1 depth

abbrev arm_without : Arm → Arm
arm_without arm = (expr_without arm.0, block_without arm.1)

abbrev arm_of : Expr → Block → Arm
arm_of cond body = (cond, body)

record IsArmBack (arm : Arm) : Type 0 where
  cond : IsReadBack arm.0
  body : IsBlockBack arm.1

arm_says : (depth : ℕ) (arm : Arm) → IsArmBack arm → Says SpellsArm arm_without arm (arm_text depth arm)
arm_says depth arm reads =
    let cond = expr_says arm.0 reads.cond in
    let body = reads.body depth in
    record {
      stands = stands_then cond.stands (follows_space body.stands);
      tokens = λ at.
          let it = cond.tokens at in
          let others = body.tokens (number_behind at (expr_marks arm.0)) in
          record {
            again = (it.again, others.again);
            spelled = subst (λ ls. SpellsArm ls (it.again, others.again)) (sym (numbered_append at (expr_marks arm.0) (Space ∷ block_marks arm.1 depth))) (SpellsArm.arm it.spelled others.spelled);
            alike = ap (λ e. arm_of e (block_without others.again)) it.alike ∙ ap (arm_of (expr_without arm.0)) others.alike;
          };
    }

while_reads : (cond : Expr) (body : Block) → IsReadBack cond → IsBlockBack body → IsStmtBack (stmt.While cond body)
while_reads cond body cond_reads body_reads depth =
    let arm = arm_says depth (cond, body) (record { cond = cond_reads; body = body_reads }) in
    subst (Says SpellsStmt stmt_without (stmt.While cond body)) (sym (marks_while cond body depth)) (record {
      stands = stands_word word.While (follows_space arm.stands);
      tokens = λ at. let it = arm.tokens (at + 1) in record {
        again = stmt.While it.again.0 it.again.1;
        spelled = SpellsStmt.while (is at) it.spelled;
        alike = without_while it.again.0 it.again.1 ∙ ap (λ (x : Arm). stmt.While x.0 x.1) it.alike ∙ sym (without_while cond body);
      };
    })

-- the arms behind the first, and the last block
abbrev Tail : Type 0
Tail = List Arm × Option Block

abbrev tail_of : List Arm → Option Block → Tail
tail_of arms last = (arms, last)

abbrev SpellsTail : NumberedLexemes → Tail → Type 0
SpellsTail ls tail = SpellsElse ls tail.0 tail.1

abbrev tail_without : Tail → Tail
tail_without tail = (map arm_without tail.0, option_map block_without tail.1)

abbrev arm_layout : Arm → Expr × Layout
arm_layout arm = (arm.0, block_marks arm.1)

abbrev further_arms : ℕ → List Arm → Marks
further_arms depth arms = flat_map (λ marks. otherwise ++ marks) (map (arm_marks (word_mark word.If) depth) (map arm_layout arms))

abbrev IsLastBack : Option Block → Type 0
IsLastBack None = Unit {0}
IsLastBack (Some body) = IsBlockBack body

tail_goes_on : (depth : ℕ) (arms : List Arm) (last : Option Block) → AllByRecursion IsArmBack arms → IsLastBack last
    → GoesOn SpellsTail tail_without (tail_of arms last) (further_arms depth arms ++ last_marks depth (option_map block_marks last))
tail_goes_on depth [] None are is_last = record { follows = follows_none; tokens = λ at. record { again = ([], None); spelled = SpellsElse.no_else; alike = refl } }
tail_goes_on depth [] (Some body) are is_last =
    let inner = is_last depth in
    record {
      follows = follows_space (stands_word word.Else (follows_space inner.stands));
      tokens = λ at. let it = inner.tokens (at + 1) in record {
        again = ([], Some it.again);
        spelled = SpellsElse.else_ (is at) it.spelled;
        alike = ap (λ b. tail_of [] (Some b)) it.alike;
      };
    }
tail_goes_on depth (arm ∷ arms) last are is_last =
    let one = arm_says depth arm are.0 in
    let more = tail_goes_on depth arms last are.1 is_last in
    let rest = further_arms depth arms ++ last_marks depth (option_map block_marks last) in
    let same = ap (λ ms. Space ∷ word_mark word.Else ∷ Space ∷ word_mark word.If ∷ Space ∷ ms) (append_assoc (arm_text depth arm) (further_arms depth arms) (last_marks depth (option_map block_marks last))) in
    subst (GoesOn SpellsTail tail_without (tail_of (arm ∷ arms) last)) (sym same) (record {
      follows = follows_space (stands_word word.Else (follows_space (stands_word word.If (follows_space (stands_then one.stands more.follows)))));
      tokens = λ at.
          let from = (at + 1) + 1 in
          let it = one.tokens from in
          let others = more.tokens (number_behind from (arm_text depth arm)) in
          record {
            again = (it.again ∷ others.again.0, others.again.1);
            spelled = subst (λ ls. SpellsElse ((at, WordOf word.Else) ∷ (at + 1, WordOf word.If) ∷ ls) (it.again ∷ others.again.0) others.again.1) (sym (numbered_append from (arm_text depth arm) rest))
                (SpellsElse.else_if (is at) (is (at + 1)) it.spelled others.spelled);
            alike = ap (λ (x : Arm). tail_of (x ∷ map arm_without others.again.0) (option_map block_without others.again.1)) it.alike
                ∙ ap (λ (x : Tail). tail_of (arm_without arm ∷ x.0) x.1) others.alike;
          };
    })

if_reads : (first : Arm) (arms : List Arm) (last : Option Block) → IsArmBack first → AllByRecursion IsArmBack arms → IsLastBack last → IsStmtBack (stmt.If (first ∷ arms) last)
if_reads first arms last reads are is_last depth =
    let one = arm_says depth first reads in
    let more = tail_goes_on depth arms last are is_last in
    let rest = further_arms depth arms ++ last_marks depth (option_map block_marks last) in
    let same = marks_if (first ∷ arms) last depth ∙ ap (λ ms. word_mark word.If ∷ Space ∷ ms) (append_assoc (arm_text depth first) (further_arms depth arms) (last_marks depth (option_map block_marks last))) in
    subst (Says SpellsStmt stmt_without (stmt.If (first ∷ arms) last)) (sym same) (record {
      stands = stands_word word.If (follows_space (stands_then one.stands more.follows));
      tokens = λ at.
          let it = one.tokens (at + 1) in
          let others = more.tokens (number_behind (at + 1) (arm_text depth first)) in
          record {
            again = stmt.If (it.again ∷ others.again.0) others.again.1;
            spelled = subst (λ ls. SpellsStmt ((at, WordOf word.If) ∷ ls) (stmt.If (it.again ∷ others.again.0) others.again.1)) (sym (numbered_append (at + 1) (arm_text depth first) rest))
                (SpellsStmt.if_ (is at) it.spelled others.spelled);
            alike = without_if (it.again ∷ others.again.0) others.again.1
                ∙ ap (λ (x : Arm). stmt.If (x ∷ map arm_without others.again.0) (option_map block_without others.again.1)) it.alike
                ∙ ap (λ (x : Tail). stmt.If (arm_without first ∷ x.0) x.1) others.alike
                ∙ sym (without_if (first ∷ arms) last);
          };
    })

-- ---- blocks

stmts_go_on : (depth : ℕ) (stmts : List Stmt) → AllByRecursion IsStmtBack stmts → GoesOn SpellsStmts (map stmt_without) stmts (lines_of depth (map stmt_marks stmts))
stmts_go_on depth [] are = record { follows = follows_none; tokens = λ at. record { again = []; spelled = SpellsStmts.no_stmt; alike = refl } }
stmts_go_on depth (s ∷ ss) are =
    let one = are.0 depth in
    let more = stmts_go_on depth ss are.1 in
    record {
      follows = follows_then (follows_line depth one.stands) more.follows;
      tokens = λ at.
          let it = one.tokens at in
          let others = more.tokens (number_behind at (stmt_marks s depth)) in
          record {
            again = it.again ∷ others.again;
            spelled = subst (λ ls. SpellsStmts ls (it.again ∷ others.again)) (sym (numbered_append at (stmt_marks s depth) (lines_of depth (map stmt_marks ss)))) (SpellsStmts.stmts it.spelled others.spelled);
            alike = both_alike it.alike others.alike;
          };
    }

abbrev block_of : List Stmt → Block
block_of stmts = roll-Block (record { stmts = stmts })

block_reads : (stmts : List Stmt) → AllByRecursion IsStmtBack stmts → IsBlockBack (block_of stmts)
block_reads [] are depth =
    subst (Says SpellsBlock block_without (block_of [])) (sym (marks_rolled [] depth)) (record {
      stands = stands_where_follows (follows_sign sign.OpenBrace refl (stands_where_follows (follows_space (stands_where_follows (follows_sign sign.CloseBrace refl stands_none)))));
      tokens = λ at. record { again = block_of []; spelled = SpellsBlock.block (is at) SpellsStmts.no_stmt (is (at + 1)); alike = refl };
    })
block_reads (s ∷ ss) are depth =
    let more = stmts_go_on (depth + 1) (s ∷ ss) are in
    let lines = lines_of (depth + 1) (map stmt_marks (s ∷ ss)) in
    subst (Says SpellsBlock block_without (block_of (s ∷ ss))) (sym (marks_rolled (s ∷ ss) depth)) (record {
      stands = stands_where_follows (follows_sign sign.OpenBrace refl (stands_where_follows (follows_then more.follows (follows_line depth (stands_where_follows (follows_sign sign.CloseBrace refl stands_none))))));
      tokens = λ at. let it = more.tokens (at + 1) in record {
        again = block_of it.again;
        spelled = subst (λ ls. SpellsBlock ((at, SignOf sign.OpenBrace) ∷ ls) (block_of it.again)) (sym (numbered_append (at + 1) lines (Line depth ∷ sign_mark sign.CloseBrace ∷ [])))
            (SpellsBlock.block (is at) it.spelled (is (number_behind (at + 1) lines)));
        alike = without_block it.again ∙ ap block_of it.alike ∙ sym (without_block (s ∷ ss));
      };
    })

-- ---- all that is spelled

-- what is known of a tail
record IsTailBack (arms : List Arm) (last : Option Block) : Type 0 where
  arms_back : AllByRecursion IsArmBack arms
  last_back : IsLastBack last

mutual
  pub block_is_read : {a : NumberedLexemes} {x : Block} → SpellsBlock a x → AreValid a → IsBlockBack x
  block_is_read (SpellsBlock.block {o = o} {a = a} {c = c} {stmts = stmts} v p w) s = block_reads stmts (stmts_are_read p (front a c (behind o (a ++ c) s)))

  stmts_are_read : {a : NumberedLexemes} {xs : List Stmt} → SpellsStmts a xs → AreValid a → AllByRecursion IsStmtBack xs
  stmts_are_read SpellsStmts.no_stmt s = tt
  stmts_are_read (SpellsStmts.stmts {a = a} {b = b} p q) s = (stmt_is_read p (front a b s), stmts_are_read q (behind a b s))

  stmt_is_read : {a : NumberedLexemes} {x : Stmt} → SpellsStmt a x → AreValid a → IsStmtBack x
  stmt_is_read (SpellsStmt.let_ {w = w} {n = n} {s = o} {t = t} {q = q} {e = e} {c = c} {at = at} {bytes = bytes} {kind = kind} {value = value} v m u k g p h) s =
      let named = behind w (n ++ (o ++ (t ++ (q ++ (e ++ c))))) s in
      let typed = behind o (t ++ (q ++ (e ++ c))) (behind n (o ++ (t ++ (q ++ (e ++ c)))) named) in
      let ended = behind q (e ++ c) (behind t (q ++ (e ++ c)) typed) in
      let_reads at bytes kind value (valid_of m (front n (o ++ (t ++ (q ++ (e ++ c)))) named)) (expr_reads p (front e c ended))
  stmt_is_read (SpellsStmt.try_ {w = w} {n = n} {s = o} {t = t} {q = q} {y = y} {a = a} {c = c} {at = at} {bytes = bytes} {kind = kind} {invoked = invoked} v m u k g i p h) s =
      let named = behind w (n ++ (o ++ (t ++ (q ++ (y ++ (a ++ c)))))) s in
      let typed = behind o (t ++ (q ++ (y ++ (a ++ c)))) (behind n (o ++ (t ++ (q ++ (y ++ (a ++ c))))) named) in
      let tried = behind y (a ++ c) (behind q (y ++ (a ++ c)) (behind t (q ++ (y ++ (a ++ c))) typed)) in
      try_reads at bytes kind invoked (valid_of m (front n (o ++ (t ++ (q ++ (y ++ (a ++ c))))) named)) (external_reads p (front a c tried))
  stmt_is_read (SpellsStmt.set {n = n} {q = q} {e = e} {c = c} {at = at} {bytes = bytes} {value = value} m g p h) s =
      set_reads at bytes value (valid_of m (front n (q ++ (e ++ c)) s)) (expr_reads p (front e c (behind q (e ++ c) (behind n (q ++ (e ++ c)) s))))
  stmt_is_read (SpellsStmt.set_at {n = n} {o = o} {k = k} {d = d} {q = q} {e = e} {c = c} {at = at} {bytes = bytes} {key = key} {value = value} m u p w g r h) s =
      let index = behind o (k ++ (d ++ (q ++ (e ++ c)))) (behind n (o ++ (k ++ (d ++ (q ++ (e ++ c))))) s) in
      let ended = behind q (e ++ c) (behind d (q ++ (e ++ c)) (behind k (d ++ (q ++ (e ++ c))) index)) in
      set_at_reads at bytes key value (valid_of m (front n (o ++ (k ++ (d ++ (q ++ (e ++ c))))) s)) (expr_reads p (front k (d ++ (q ++ (e ++ c))) index)) (expr_reads r (front e c ended))
  stmt_is_read (SpellsStmt.if_ {w = w} {a = a} {r = r} {first = first} {arms = arms} {last = last} v p q) s =
      let tail = tail_is_read q (behind a r (behind w (a ++ r) s)) in
      if_reads first arms last (arm_is_read p (front a r (behind w (a ++ r) s))) tail.arms_back tail.last_back
  stmt_is_read (SpellsStmt.while {w = w} {a = a} {cond = cond} {body = body} v p) s =
      let arm = arm_is_read p (behind w a s) in
      while_reads cond body arm.cond arm.body
  stmt_is_read (SpellsStmt.return {w = w} {e = e} {c = c} {value = value} v p h) s = return_reads value (expr_reads p (front e c (behind w (e ++ c) s)))
  stmt_is_read (SpellsStmt.revert {w = w} {e = e} {c = c} {value = value} v p h) s = revert_reads value (expr_reads p (front e c (behind w (e ++ c) s)))
  stmt_is_read (SpellsStmt.do_ {a = a} {c = c} {invoked = invoked} p h) s = do_reads invoked (invoke_reads p (front a c s))

  arm_is_read : {a : NumberedLexemes} {x : Arm} → SpellsArm a x → AreValid a → IsArmBack x
  arm_is_read (SpellsArm.arm {e = e} {b = b} p q) s = record { cond = expr_reads p (front e b s); body = block_is_read q (behind e b s) }

  tail_is_read : {a : NumberedLexemes} {arms : List Arm} {last : Option Block} → SpellsElse a arms last → AreValid a → IsTailBack arms last
  tail_is_read SpellsElse.no_else s = record { arms_back = tt; last_back = tt }
  tail_is_read (SpellsElse.else_ {w = w} {b = b} v p) s = record { arms_back = tt; last_back = block_is_read p (behind w b s) }
  tail_is_read (SpellsElse.else_if {w = w} {i = i} {a = a} {r = r} v u p q) s =
      let inner = behind i (a ++ r) (behind w (i ++ (a ++ r)) s) in
      let more = tail_is_read q (behind a r inner) in
      record { arms_back = (arm_is_read p (front a r inner), more.arms_back); last_back = more.last_back }
