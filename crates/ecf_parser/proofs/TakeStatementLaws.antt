-- What is spelled is read: statements.
use Rattle.std.proofs.Common.{◌≡◌, ℕ, suc, Bool, true, false, List, [], ◌∷◌, ◌++◌, Option, Some, None, Ok, refl, ◌∙◌, arith}
use Rattle.ecf_grammar.specs.declared.tokens.Kind.{Kind}
use Rattle.ecf_grammar.specs.declared.tokens.Kind.TheVariants as kind
use Rattle.ecf_grammar.specs.declared.tokens.Word.TheVariants as w
use Rattle.ecf_grammar.specs.declared.tokens.Sign.TheVariants as s
use Rattle.ecf_lang.specs.declared.tree.Ty.{Ty}
use Rattle.ecf_lang.specs.declared.tree.Expr.{Expr}
use Rattle.ecf_lang.specs.declared.tree.CallExpr.{CallExpr}
use Rattle.ecf_lang.specs.declared.tree.Stmt.{Stmt}
use Rattle.ecf_lang.specs.declared.tree.Stmt.TheVariants as st
use Rattle.ecf_lang.specs.declared.tree.Block.{Block, roll-Block}
use Rattle.ecf_grammar.specs.Lexemes.{NumberedLexemes}
use Rattle.ecf_grammar.specs.Lexemes.Lexeme.{NameOf, WordOf, SignOf}
use Rattle.ecf_grammar.specs.Spells.{Is, SpellsExpr, SpellsInvoke, SpellsExternal, SpellsType, SpellsBlock, SpellsStmts, SpellsStmt, SpellsArm, SpellsElse}
use Rattle.ecf_grammar.specs.Spells.Is.{is}
use Rattle.ecf_parser.specs.Parsers.{◌>>=◌, pure, next, is_sign, is_word, sign, word, name, eat_sign, eat_word, until, until_turn}
use Rattle.ecf_parser.specs.Descent.{external, invoke, expr, type_, value, let_value, let_, set_by, set, expr_semicolon, arm, else_by, else_turn_by, else_turn, elses, if_, while, stmt, one_block, block}
use Rattle.ecf_parser.proofs.ParserLaws.{fewer}
use Rattle.ecf_parser.proofs.StepLaws.{until_is}
use Rattle.ecf_parser.proofs.StatementLaws.{stmt_law, stmt_len, block_law, block_is, elses_is}
use Rattle.ecf_parser.proofs.TakeLaws.{via, seq, when_no, when_yes, is_sign_self, is_word_self, sign_is, word_is, name_is, eats_sign, leaves_sign, eats_word, leaves_word, next_is, next_assoc, until_ends, until_goes}
use Rattle.ecf_parser.proofs.TakeExpressionLaws.{Ends, ends_by, ends_by2, not_try, expr_reads, invoke_reads, external_reads}

pub type_is : {a : NumberedLexemes} {k : Ty} (rest : NumberedLexemes) → SpellsType a k → type_ (a ++ rest) ≡ Ok (k, rest)
unfolding type_
type_is rest (SpellsType.num (is at)) = via _ (word_is {t = w.Num} (is at) rest) refl
type_is rest (SpellsType.flag (is at)) = via _ (word_is {t = w.Flag} (is at) rest) refl
type_is rest (SpellsType.addr (is at)) = via _ (word_is {t = w.Addr} (is at) rest) refl

value_is : {q c : NumberedLexemes} {at at1 : ℕ} {x : Expr} (a rest : NumberedLexemes) → Is (SignOf s.Assign) q at → SpellsExpr a x → Is (SignOf s.Semicolon) c at1 → value ((q ++ (a ++ c)) ++ rest) ≡ Ok (x, rest)
unfolding value
value_is {q} {c} a rest p r t = seq _ (sign s.Assign) q (a ++ c) rest (sign_is p ((a ++ c) ++ rest)) (seq _ expr a c rest (expr_reads r (c ++ rest) (ends_by {t = s.Semicolon} 1 rest t (omega arith))) (via _ (sign_is t rest) refl))

closed_is : {c : NumberedLexemes} {at : ℕ} {x : Expr} (a rest : NumberedLexemes) → SpellsExpr a x → Is (SignOf s.Semicolon) c at → expr_semicolon ((a ++ c) ++ rest) ≡ Ok (x, rest)
unfolding expr_semicolon
closed_is {c} a rest r t = seq _ expr a c rest (expr_reads r (c ++ rest) (ends_by {t = s.Semicolon} 1 rest t (omega arith))) (via _ (sign_is t rest) refl)

plain_let : {c : NumberedLexemes} {at : ℕ} {x : Expr} (n : ℕ × List ℕ) (k : Ty) (a rest : NumberedLexemes) → SpellsExpr a x → Is (SignOf s.Semicolon) c at → let_value n k ((a ++ c) ++ rest) ≡ Ok (st.Let n.0 n.1 k x, rest)
unfolding let_value
plain_let {c} n k a rest r t = when_no (is_word w.Try)
    (word w.Try >>= (λ at. external expr at >>= (λ called. sign s.Semicolon >>= (λ _. pure (st.Try n.0 n.1 k called)))))
    (expr >>= (λ x. sign s.Semicolon >>= (λ _. pure (st.Let n.0 n.1 k x))))
    ((a ++ c) ++ rest) (next_assoc (λ k. is_word w.Try k ≡ false) a c rest (not_try (c ++ rest) r))
    (seq _ expr a c rest (expr_reads r (c ++ rest) (ends_by {t = s.Semicolon} 1 rest t (omega arith))) (via _ (sign_is t rest) refl))

tried_let : {y c : NumberedLexemes} {at at1 : ℕ} {x : CallExpr} (n : ℕ × List ℕ) (k : Ty) (a rest : NumberedLexemes) → Is (WordOf w.Try) y at → SpellsExternal at a x → Is (SignOf s.Semicolon) c at1 → let_value n k ((y ++ (a ++ c)) ++ rest) ≡ Ok (st.Try n.0 n.1 k x, rest)
unfolding let_value
tried_let {y} {c} {at} n k a rest p r t = when_yes (is_word w.Try)
    (word w.Try >>= (λ at. external expr at >>= (λ called. sign s.Semicolon >>= (λ _. pure (st.Try n.0 n.1 k called)))))
    (expr >>= (λ x. sign s.Semicolon >>= (λ _. pure (st.Let n.0 n.1 k x))))
    ((y ++ (a ++ c)) ++ rest) (next_assoc (λ k. is_word w.Try k ≡ true) y (a ++ c) rest (next_is (λ k. is_word w.Try k ≡ true) ((a ++ c) ++ rest) p (is_word_self w.Try)))
    (seq _ (word w.Try) y (a ++ c) rest (word_is p ((a ++ c) ++ rest)) (seq _ (external expr at) a c rest (external_reads r (c ++ rest)) (via _ (sign_is t rest) refl)))

let_is : {v n o q : NumberedLexemes} {at at1 at2 at3 : ℕ} {bytes : List ℕ} {k : Ty} {x : Stmt} (t b rest : NumberedLexemes) → Is (WordOf w.Let) v at1 → Is (NameOf bytes) n at → Is (SignOf s.Colon) o at2 → SpellsType t k → Is (SignOf s.Assign) q at3 → let_value (at, bytes) k (b ++ rest) ≡ Ok (x, rest) → let_ ((v ++ (n ++ (o ++ (t ++ (q ++ b))))) ++ rest) ≡ Ok (x, rest)
unfolding let_
let_is {v} {n} {o} {q} t b rest p nm p2 ty p3 k = seq _ (word w.Let) v (n ++ (o ++ (t ++ (q ++ b)))) rest (word_is p _) (seq _ name n (o ++ (t ++ (q ++ b))) rest (name_is nm _) (seq _ (sign s.Colon) o (t ++ (q ++ b)) rest (sign_is p2 _) (seq _ type_ t (q ++ b) rest (type_is ((q ++ b) ++ rest) ty) (seq _ (sign s.Assign) q b rest (sign_is p3 (b ++ rest)) k))))

not_index : is_sign s.OpenBracket (Some (kind.Sign s.Assign)) ≡ false
unfolding is_sign
not_index = refl

set_is : {n q c : NumberedLexemes} {at at1 at2 : ℕ} {bytes : List ℕ} {x : Expr} (a rest : NumberedLexemes) → Is (NameOf bytes) n at → Is (SignOf s.Assign) q at1 → SpellsExpr a x → Is (SignOf s.Semicolon) c at2 → set ((n ++ (q ++ (a ++ c))) ++ rest) ≡ Ok (st.Set at bytes x, rest)
unfolding set
set_is {n} {q} {c} {at} {bytes = bytes} a rest nm p r t = seq _ name n (q ++ (a ++ c)) rest (name_is nm _) (via (set_by (at, bytes)) (leaves_sign s.OpenBracket ((q ++ (a ++ c)) ++ rest) (next_assoc (λ k. is_sign s.OpenBracket k ≡ false) q (a ++ c) rest (next_is (λ k. is_sign s.OpenBracket k ≡ false) ((a ++ c) ++ rest) p not_index))) (via _ (value_is a rest p r t) refl))

set_at_is : {n o d q c : NumberedLexemes} {at at1 at2 at3 at4 : ℕ} {bytes : List ℕ} {key x : Expr} (k a rest : NumberedLexemes) → Is (NameOf bytes) n at → Is (SignOf s.OpenBracket) o at1 → SpellsExpr k key → Is (SignOf s.CloseBracket) d at2 → Is (SignOf s.Assign) q at3 → SpellsExpr a x → Is (SignOf s.Semicolon) c at4 → set ((n ++ (o ++ (k ++ (d ++ (q ++ (a ++ c)))))) ++ rest) ≡ Ok (st.SetAt at bytes key x, rest)
unfolding set
set_at_is {n} {o} {d} {q} {c} {at} {bytes = bytes} k a rest nm p r p2 p3 u t = seq _ name n (o ++ (k ++ (d ++ (q ++ (a ++ c))))) rest (name_is nm _) (seq (set_by (at, bytes)) (eat_sign s.OpenBracket) o (k ++ (d ++ (q ++ (a ++ c)))) rest (eats_sign p _) (seq _ expr k (d ++ (q ++ (a ++ c))) rest (expr_reads r _ (ends_by2 {t = s.CloseBracket} 1 (q ++ (a ++ c)) rest p2 (omega arith))) (seq _ (sign s.CloseBracket) d (q ++ (a ++ c)) rest (sign_is p2 _) (via _ (value_is a rest p3 u t) refl))))

-- ---- which statement it is

let_chosen : {v : NumberedLexemes} {at : ℕ} (b rest : NumberedLexemes) → Is (WordOf w.Let) v at → stmt block ((v ++ b) ++ rest) ≡ let_ ((v ++ b) ++ rest)
unfolding stmt
let_chosen b rest (is at) = refl

set_chosen : {n : NumberedLexemes} {bytes : List ℕ} {at : ℕ} (b rest : NumberedLexemes) → Is (NameOf bytes) n at → stmt block ((n ++ b) ++ rest) ≡ set ((n ++ b) ++ rest)
unfolding stmt
set_chosen b rest (is at) = refl

if_chosen : {v : NumberedLexemes} {at : ℕ} (b rest : NumberedLexemes) → Is (WordOf w.If) v at → stmt block ((v ++ b) ++ rest) ≡ if_ block ((v ++ b) ++ rest)
unfolding stmt
if_chosen b rest (is at) = refl

while_chosen : {v : NumberedLexemes} {at : ℕ} (b rest : NumberedLexemes) → Is (WordOf w.While) v at → stmt block ((v ++ b) ++ rest) ≡ while block ((v ++ b) ++ rest)
unfolding stmt
while_chosen b rest (is at) = refl

return_is : {v c : NumberedLexemes} {at at1 : ℕ} {x : Expr} (a rest : NumberedLexemes) → Is (WordOf w.Return) v at → SpellsExpr a x → Is (SignOf s.Semicolon) c at1 → stmt block ((v ++ (a ++ c)) ++ rest) ≡ Ok (st.Return x, rest)
unfolding stmt
return_is {c = c} a rest (is at) r t = seq _ (word w.Return) ((at, WordOf w.Return) ∷ []) (a ++ c) rest (word_is {t = w.Return} (is at) ((a ++ c) ++ rest)) (via _ (closed_is a rest r t) refl)

revert_is : {v c : NumberedLexemes} {at at1 : ℕ} {x : Expr} (a rest : NumberedLexemes) → Is (WordOf w.Revert) v at → SpellsExpr a x → Is (SignOf s.Semicolon) c at1 → stmt block ((v ++ (a ++ c)) ++ rest) ≡ Ok (st.Revert x, rest)
unfolding stmt
revert_is {c = c} a rest (is at) r t = seq _ (word w.Revert) ((at, WordOf w.Revert) ∷ []) (a ++ c) rest (word_is {t = w.Revert} (is at) ((a ++ c) ++ rest)) (via _ (closed_is a rest r t) refl)

do_chosen : {a : NumberedLexemes} {x : CallExpr} (c rest : NumberedLexemes) → SpellsInvoke a x → stmt block ((a ++ c) ++ rest) ≡ (invoke expr >>= (λ called. sign s.Semicolon >>= (λ _. pure (st.Do called)))) ((a ++ c) ++ rest)
unfolding stmt
do_chosen c rest (SpellsInvoke.call (is at) _) = refl
do_chosen c rest (SpellsInvoke.internal (is at) _ _ _) = refl

do_is : {c : NumberedLexemes} {at : ℕ} {x : CallExpr} (a rest : NumberedLexemes) → SpellsInvoke a x → Is (SignOf s.Semicolon) c at → stmt block ((a ++ c) ++ rest) ≡ Ok (st.Do x, rest)
do_is {c} a rest r t = do_chosen c rest r ∙ seq _ (invoke expr) a c rest (invoke_reads r (c ++ rest)) (via _ (sign_is t rest) refl)

-- ---- what a statement begins with

module _ (test : Option Kind → Bool) (name : test (Some kind.Name) ≡ false) (let_ : test (Some (kind.Word w.Let)) ≡ false) (if_ : test (Some (kind.Word w.If)) ≡ false) (while : test (Some (kind.Word w.While)) ≡ false) (return : test (Some (kind.Word w.Return)) ≡ false) (revert : test (Some (kind.Word w.Revert)) ≡ false) (call : test (Some (kind.Word w.Call)) ≡ false) (self : test (Some (kind.Word w.SelfWord)) ≡ false) where
  stmt_begins : {a : NumberedLexemes} {x : Stmt} (rest : NumberedLexemes) → SpellsStmt a x → test (next (a ++ rest)) ≡ false
  stmt_begins rest (SpellsStmt.let_ (is at) _ _ _ _ _ _) = let_
  stmt_begins rest (SpellsStmt.try_ (is at) _ _ _ _ _ _ _) = let_
  stmt_begins rest (SpellsStmt.set (is at) _ _ _) = name
  stmt_begins rest (SpellsStmt.set_at (is at) _ _ _ _ _ _) = name
  stmt_begins rest (SpellsStmt.if_ (is at) _ _) = if_
  stmt_begins rest (SpellsStmt.while (is at) _) = while
  stmt_begins rest (SpellsStmt.return (is at) _ _) = return
  stmt_begins rest (SpellsStmt.revert (is at) _ _) = revert
  stmt_begins rest (SpellsStmt.do_ (SpellsInvoke.call (is at) _) _) = call
  stmt_begins rest (SpellsStmt.do_ (SpellsInvoke.internal (is at) _ _ _) _) = self

not_close : {a : NumberedLexemes} {x : Stmt} (rest : NumberedLexemes) → SpellsStmt a x → is_sign s.CloseBrace (next (a ++ rest)) ≡ false
unfolding is_sign
not_close rest p = stmt_begins (is_sign s.CloseBrace) refl refl refl refl refl refl refl refl rest p

not_else : {a : NumberedLexemes} {x : Stmt} (rest : NumberedLexemes) → SpellsStmt a x → is_word w.Else (next (a ++ rest)) ≡ false
unfolding is_word
not_else rest p = stmt_begins (is_word w.Else) refl refl refl refl refl refl refl refl rest p

stmts_else : {b : NumberedLexemes} {xs : List Stmt} (rest : NumberedLexemes) → SpellsStmts b xs → is_word w.Else (next rest) ≡ false → is_word w.Else (next (b ++ rest)) ≡ false
stmts_else rest SpellsStmts.no_stmt h = h
stmts_else rest (SpellsStmts.stmts {a = a} {b = b} p q) h = next_assoc (λ k. is_word w.Else k ≡ false) a b rest (not_else (b ++ rest) p)

close_is_no_else : is_word w.Else (Some (kind.Sign s.CloseBrace)) ≡ false
unfolding is_word
close_is_no_else = refl

open_is_no_if : is_word w.If (Some (kind.Sign s.OpenBrace)) ≡ false
unfolding is_word
open_is_no_if = refl

block_ends : {b : NumberedLexemes} {x : Block} (rest : NumberedLexemes) → SpellsBlock b x → Ends 1 (b ++ rest)
block_ends rest (SpellsBlock.block {a = a} {c = c} o p q) = ends_by2 {t = s.OpenBrace} 1 (a ++ c) rest o (omega arith)

block_no_if : {b : NumberedLexemes} {x : Block} (rest : NumberedLexemes) → SpellsBlock b x → is_word w.If (next (b ++ rest)) ≡ false
block_no_if rest (SpellsBlock.block (is at) p q) = open_is_no_if

-- ---- one line at a time

arm_step : {x : Expr} {y : Block} (a b rest : NumberedLexemes) → SpellsExpr a x → SpellsBlock b y → block (b ++ rest) ≡ Ok (y, rest) → arm block ((a ++ b) ++ rest) ≡ Ok ((x, y), rest)
unfolding arm
arm_step a b rest p q k = seq _ expr a b rest (expr_reads p (b ++ rest) (block_ends rest q)) (via _ k refl)

if_step : {v : NumberedLexemes} {at : ℕ} {first : Expr × Block} {arms : List (Expr × Block)} {last : Option Block} (a r rest : NumberedLexemes) → Is (WordOf w.If) v at → arm block (a ++ (r ++ rest)) ≡ Ok (first, r ++ rest) → elses block (r ++ rest) ≡ Ok ((arms, last), rest) → stmt block ((v ++ (a ++ r)) ++ rest) ≡ Ok (st.If (first ∷ arms) last, rest)
unfolding if_
if_step {v} a r rest p e k = if_chosen (a ++ r) rest p ∙ seq _ (word w.If) v (a ++ r) rest (word_is p ((a ++ r) ++ rest)) (seq _ (arm block) a r rest e (via _ k refl))

while_step : {v : NumberedLexemes} {at : ℕ} {cond : Expr} {body : Block} (a rest : NumberedLexemes) → Is (WordOf w.While) v at → arm block (a ++ rest) ≡ Ok ((cond, body), rest) → stmt block ((v ++ a) ++ rest) ≡ Ok (st.While cond body, rest)
unfolding while
while_step {v} a rest p e = while_chosen a rest p ∙ seq _ (word w.While) v a rest (word_is p (a ++ rest)) (via _ e refl)

pub opens_elses : (ls : NumberedLexemes) → elses block ls ≡ else_turn block (elses block) ls
opens_elses ls = elses_is block block_law ls

no_else_step : (rest : NumberedLexemes) → is_word w.Else (next rest) ≡ false → elses block rest ≡ Ok (([], None), rest)
no_else_step rest h = opens_elses rest ∙ via (else_turn_by block (elses block)) (leaves_word w.Else rest h) refl

else_step : {v : NumberedLexemes} {at : ℕ} {body : Block} (b rest : NumberedLexemes) → Is (WordOf w.Else) v at → SpellsBlock b body → block (b ++ rest) ≡ Ok (body, rest) → elses block ((v ++ b) ++ rest) ≡ Ok (([], Some body), rest)
else_step {v} b rest p r k = opens_elses ((v ++ b) ++ rest) ∙ seq (else_turn_by block (elses block)) (eat_word w.Else) v b rest (eats_word p (b ++ rest)) (via (else_by block (elses block)) (leaves_word w.If (b ++ rest) (block_no_if rest r)) (via _ k refl))

else_if_step : {v i : NumberedLexemes} {at at1 : ℕ} {first : Expr × Block} {arms : List (Expr × Block)} {last : Option Block} (a r rest : NumberedLexemes) → Is (WordOf w.Else) v at → Is (WordOf w.If) i at1 → arm block (a ++ (r ++ rest)) ≡ Ok (first, r ++ rest) → elses block (r ++ rest) ≡ Ok ((arms, last), rest) → elses block ((v ++ (i ++ (a ++ r))) ++ rest) ≡ Ok ((first ∷ arms, last), rest)
else_if_step {v} {i} a r rest p q e k = opens_elses ((v ++ (i ++ (a ++ r))) ++ rest) ∙ seq (else_turn_by block (elses block)) (eat_word w.Else) v (i ++ (a ++ r)) rest (eats_word p ((i ++ (a ++ r)) ++ rest)) (seq (else_by block (elses block)) (eat_word w.If) i (a ++ r) rest (eats_word q ((a ++ r) ++ rest)) (seq _ (arm block) a r rest e (via _ k refl)))

pub opens_stmts : (ls : NumberedLexemes) → until (is_sign s.CloseBrace) (stmt block) ls ≡ until_turn (is_sign s.CloseBrace) (stmt block) (until (is_sign s.CloseBrace) (stmt block)) ls
opens_stmts ls = until_is SpellsStmt SpellsStmts (is_sign s.CloseBrace) stmt_len SpellsStmts.no_stmt (λ a b x xs r rs. SpellsStmts.stmts r rs) (stmt block) (λ M. fewer M (suc M) (omega arith) (stmt_law M block block (block_law M))) ls

block_step : {o c : NumberedLexemes} {at1 at2 : ℕ} {xs : List Stmt} (a rest : NumberedLexemes) → Is (SignOf s.OpenBrace) o at1 → until (is_sign s.CloseBrace) (stmt block) (a ++ (c ++ rest)) ≡ Ok (xs, c ++ rest) → Is (SignOf s.CloseBrace) c at2 → block ((o ++ (a ++ c)) ++ rest) ≡ Ok (roll-Block (record { stmts = xs }), rest)
unfolding one_block
block_step {o} {c} a rest p k q = block_is ((o ++ (a ++ c)) ++ rest) ∙ seq _ (sign s.OpenBrace) o (a ++ c) rest (sign_is p ((a ++ c) ++ rest)) (seq _ (until (is_sign s.CloseBrace) (stmt block)) a c rest k (via _ (sign_is q rest) refl))

-- ---- whole statements

mutual
  pub block_reads : {a : NumberedLexemes} {x : Block} → SpellsBlock a x → (rest : NumberedLexemes) → block (a ++ rest) ≡ Ok (x, rest)
  block_reads (SpellsBlock.block {a = a} {c = c} o p q) rest = block_step a rest o (stmts_reads p (c ++ rest) (next_is (λ k. is_sign s.CloseBrace k ≡ true) rest q (is_sign_self s.CloseBrace)) (next_is (λ k. is_word w.Else k ≡ false) rest q close_is_no_else)) q

  stmts_reads : {a : NumberedLexemes} {xs : List Stmt} → SpellsStmts a xs → (rest : NumberedLexemes) → is_sign s.CloseBrace (next rest) ≡ true → is_word w.Else (next rest) ≡ false → until (is_sign s.CloseBrace) (stmt block) (a ++ rest) ≡ Ok (xs, rest)
  stmts_reads SpellsStmts.no_stmt rest h g = until_ends (is_sign s.CloseBrace) (stmt block) opens_stmts rest h
  stmts_reads (SpellsStmts.stmts {a = a} {b = b} p q) rest h g = until_goes (is_sign s.CloseBrace) (stmt block) opens_stmts a b rest (not_close (b ++ rest) p) (stmt_reads p (b ++ rest) (stmts_else rest q g)) (stmts_reads q rest h g)

  stmt_reads : {a : NumberedLexemes} {x : Stmt} → SpellsStmt a x → (rest : NumberedLexemes) → is_word w.Else (next rest) ≡ false → stmt block (a ++ rest) ≡ Ok (x, rest)
  stmt_reads (SpellsStmt.let_ {n = n} {s = o} {t = t} {q = q} {e = a} {c = c} {at = at} {bytes = bytes} {kind = k} v nm p ty p2 r p3) rest g = let_chosen (n ++ (o ++ (t ++ (q ++ (a ++ c))))) rest v ∙ let_is t (a ++ c) rest v nm p ty p2 (plain_let (at, bytes) k a rest r p3)
  stmt_reads (SpellsStmt.try_ {n = n} {s = o} {t = t} {q = q} {y = y} {a = a} {c = c} {at = at} {bytes = bytes} {kind = k} v nm p ty p2 p3 r p4) rest g = let_chosen (n ++ (o ++ (t ++ (q ++ (y ++ (a ++ c)))))) rest v ∙ let_is t (y ++ (a ++ c)) rest v nm p ty p2 (tried_let (at, bytes) k a rest p3 r p4)
  stmt_reads (SpellsStmt.set {q = q} {e = a} {c = c} nm p r p2) rest g = set_chosen (q ++ (a ++ c)) rest nm ∙ set_is a rest nm p r p2
  stmt_reads (SpellsStmt.set_at {o = o} {k = k} {d = d} {q = q} {e = a} {c = c} nm p r p2 p3 u p4) rest g = set_chosen (o ++ (k ++ (d ++ (q ++ (a ++ c))))) rest nm ∙ set_at_is k a rest nm p r p2 p3 u p4
  stmt_reads (SpellsStmt.if_ {a = a} {r = r} v p q) rest g = if_step a r rest v (arm_reads p (r ++ rest)) (else_reads q rest g)
  stmt_reads (SpellsStmt.while {a = a} v p) rest g = while_step a rest v (arm_reads p rest)
  stmt_reads (SpellsStmt.return {e = a} v r p) rest g = return_is a rest v r p
  stmt_reads (SpellsStmt.revert {e = a} v r p) rest g = revert_is a rest v r p
  stmt_reads (SpellsStmt.do_ {a = a} r p) rest g = do_is a rest r p

  arm_reads : {a : NumberedLexemes} {x : Expr × Block} → SpellsArm a x → (rest : NumberedLexemes) → arm block (a ++ rest) ≡ Ok (x, rest)
  arm_reads (SpellsArm.arm {e = a} {b = b} p q) rest = arm_step a b rest p q (block_reads q rest)

  else_reads : {a : NumberedLexemes} {arms : List (Expr × Block)} {last : Option Block} → SpellsElse a arms last → (rest : NumberedLexemes) → is_word w.Else (next rest) ≡ false → elses block (a ++ rest) ≡ Ok ((arms, last), rest)
  else_reads SpellsElse.no_else rest g = no_else_step rest g
  else_reads (SpellsElse.else_ {b = b} v p) rest g = else_step b rest v p (block_reads p rest)
  else_reads (SpellsElse.else_if {a = a} {r = r} v i p q) rest g = else_if_step a r rest v i (arm_reads p (r ++ rest)) (else_reads q rest g)
