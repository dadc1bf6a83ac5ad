-- The readers of statements do well.
use Rattle.std.proofs.Common.{◌≡◌, ℕ, suc, ◌+◌, ◌-◌, ◌<◌, ◌≤◌, Bool, true, false, List, [], ◌∷◌, ◌++◌, length, Option, Some, None, arith, length-append}
use Rattle.ecf_grammar.specs.declared.tokens.Kind.{Kind}
use Rattle.ecf_grammar.specs.declared.tokens.Kind.TheVariants as kind
use Rattle.ecf_grammar.specs.declared.tokens.Word.TheVariants as w
use Rattle.ecf_grammar.specs.declared.tokens.Sign.TheVariants as s
use Rattle.ecf_lang.specs.declared.tree.Ty.TheVariants as ty
use Rattle.ecf_lang.specs.declared.tree.Expr.{Expr}
use Rattle.ecf_lang.specs.declared.tree.CallExpr.{CallExpr}
use Rattle.ecf_lang.specs.declared.tree.Stmt.{Stmt}
use Rattle.ecf_lang.specs.declared.tree.Stmt.TheVariants as st
use Rattle.ecf_lang.specs.declared.tree.Block.{Block, roll-Block}
use Rattle.ecf_grammar.specs.Lexemes.{Lexeme, NumberedLexemes}
use Rattle.ecf_grammar.specs.Lexemes.Lexeme.{NameOf, WordOf, SignOf}
use Rattle.ecf_grammar.specs.Spells.{Is, SpellsExpr, SpellsInvoke, SpellsType, SpellsBlock, SpellsStmts, SpellsStmt, SpellsArm, SpellsElse}
use Rattle.ecf_grammar.specs.Spells.Is.{is}
use Rattle.ecf_parser.specs.Parsers.{Parser, ◌>>=◌, pure, refuse, is_sign, is_word, sign, word}
use Rattle.ecf_parser.specs.Descent.{external, invoke, expr, type_by, type_, value, let_value, let_, set_by, set, expr_semicolon, arm, else_by, else_turn_by, else_turn, elses, if_, while, stmt_by, stmt, one_block, block}
use Rattle.ecf_parser.proofs.ParserLaws.{Completes, Lawful, fewer, bind, bind_less, last, nothing, refused, chosen, tested, knot, knot_is}
use Rattle.ecf_parser.proofs.StepLaws.{Eaten, Named, less, is_len, of_sign, of_word, of_name, of_eat_sign, of_eat_word, of_until}
use Rattle.ecf_parser.proofs.StepLaws.Eaten.{eaten, left}
use Rattle.ecf_parser.proofs.ExpressionLaws.{external_law, invoke_law, expr_law}

some_type : Completes SpellsType []
some_type k = (WordOf w.Num ∷ [], ty.Num, SpellsType.num (is k))

type_law_by : {N : ℕ} (k : Option Kind) → Lawful N SpellsType (type_by k) (type_by k)
type_law_by (Some (kind.Word w.Num)) = last (λ _. ty.Num) (of_word w.Num) (λ a at p. SpellsType.num p)
type_law_by (Some (kind.Word w.Flag)) = last (λ _. ty.Flag) (of_word w.Flag) (λ a at p. SpellsType.flag p)
type_law_by (Some (kind.Word w.Addr)) = last (λ _. ty.Addr) (of_word w.Addr) (λ a at p. SpellsType.addr p)
type_law_by _ = refused some_type

pub type_law : {N : ℕ} → Lawful N SpellsType type_ type_
unfolding type_
type_law = chosen type_by type_by type_law_by

-- "=" expr ";"
pub data Value : NumberedLexemes → Expr → Type 0 where
  assigned : {q e c : NumberedLexemes} {at at1 : ℕ} {x : Expr} → Is (SignOf s.Assign) q at → SpellsExpr e x → Is (SignOf s.Semicolon) c at1 → Value (q ++ (e ++ c)) x

-- expr ";"
pub data Closed : NumberedLexemes → Expr → Type 0 where
  closing : {e c : NumberedLexemes} {at : ℕ} {x : Expr} → SpellsExpr e x → Is (SignOf s.Semicolon) c at → Closed (e ++ c) x

value_law : {N : ℕ} → Lawful N Value value value
unfolding value
value_law {N} = bind (of_sign s.Assign) (λ q at p. bind (expr_law N) (λ a x r. last (λ _. x) (of_sign s.Semicolon) (λ c at1 t. assigned p r t)))

closed_law : {N : ℕ} → Lawful N Closed expr_semicolon expr_semicolon
unfolding expr_semicolon
closed_law {N} = bind (expr_law N) (λ a x r. last (λ _. x) (of_sign s.Semicolon) (λ c at1 t. closing r t))

let_law : {N : ℕ} → Lawful (suc N) SpellsStmt let_ let_
unfolding let_ let_value
let_law {N} = bind (of_word w.Let) (λ v at1 p. bind of_name (λ n x nm. bind (of_sign s.Colon) (λ o at2 p2. bind type_law (λ t k ty. bind (of_sign s.Assign) (λ q at3 p3. tested (is_word w.Try)
    (word w.Try >>= (λ at. external expr at >>= (λ called. sign s.Semicolon >>= (λ _. pure (st.Try x.0 x.1 k called)))))
    (word w.Try >>= (λ at. external expr at >>= (λ called. sign s.Semicolon >>= (λ _. pure (st.Try x.0 x.1 k called)))))
    (expr >>= (λ y. sign s.Semicolon >>= (λ _. pure (st.Let x.0 x.1 k y))))
    (expr >>= (λ y. sign s.Semicolon >>= (λ _. pure (st.Let x.0 x.1 k y))))
    (bind (of_word w.Try) (λ y at4 p4. bind (external_law N expr expr (expr_law N) at4) (λ a called r. last (λ _. st.Try x.0 x.1 k called) (of_sign s.Semicolon) (λ c at5 p5. SpellsStmt.try_ p nm p2 ty p3 p4 r p5))))
    (bind (expr_law (suc N)) (λ a y r. last (λ _. st.Let x.0 x.1 k y) (of_sign s.Semicolon) (λ c at4 p4. SpellsStmt.let_ p nm p2 ty p3 r p4))))))))

set_of : {n b : NumberedLexemes} {at : ℕ} {bytes : List ℕ} {x : Expr} → Is (NameOf bytes) n at → Value b x → SpellsStmt (n ++ b) (st.Set at bytes x)
set_of nm (assigned q r c) = SpellsStmt.set nm q r c

set_at_of : {n o k d b : NumberedLexemes} {at at1 at2 : ℕ} {bytes : List ℕ} {key x : Expr} → Is (NameOf bytes) n at → Is (SignOf s.OpenBracket) o at1 → SpellsExpr k key → Is (SignOf s.CloseBracket) d at2 → Value b x → SpellsStmt (n ++ (o ++ (k ++ (d ++ b)))) (st.SetAt at bytes key x)
set_at_of nm o k d (assigned q r c) = SpellsStmt.set_at nm o k d q r c

set_law_by : {N : ℕ} (n : NumberedLexemes) (x : ℕ × List ℕ) → Named n x → (o : NumberedLexemes) (b : Bool) → Eaten (SignOf s.OpenBracket) o b → Lawful N (λ b y. SpellsStmt (n ++ (o ++ b)) y) (set_by x b) (set_by x b)
set_law_by {N} n x nm o true (eaten p) = bind (expr_law N) (λ a key r. bind (of_sign s.CloseBracket) (λ d at q. last (λ y. st.SetAt x.0 x.1 key y) value_law (λ b y v. set_at_of nm p r q v)))
set_law_by {N} n x nm o false left = last (λ y. st.Set x.0 x.1 y) value_law (λ b y v. set_of nm v)

set_law : {N : ℕ} → Lawful N SpellsStmt set set
unfolding set
set_law = bind of_name (λ n x nm. bind (of_eat_sign s.OpenBracket) (λ o b p. set_law_by n x nm o b p))

return_of : {v b : NumberedLexemes} {at : ℕ} {x : Expr} → Is (WordOf w.Return) v at → Closed b x → SpellsStmt (v ++ b) (st.Return x)
return_of p (closing r c) = SpellsStmt.return p r c

revert_of : {v b : NumberedLexemes} {at : ℕ} {x : Expr} → Is (WordOf w.Revert) v at → Closed b x → SpellsStmt (v ++ b) (st.Revert x)
revert_of p (closing r c) = SpellsStmt.revert p r c

pub some_block : Completes SpellsBlock []
some_block k = (SignOf s.OpenBrace ∷ SignOf s.CloseBrace ∷ [], roll-Block (record { stmts = [] }), SpellsBlock.block (is k) SpellsStmts.no_stmt (is (k + 1)))

-- arms and the last block behind `else`
pub Elses : NumberedLexemes → List (Expr × Block) × Option Block → Type 0
Elses a r = SpellsElse a r.0 r.1

no_elses : Elses [] ([], None)
unfolding Elses
no_elses = SpellsElse.no_else

module _ (N : ℕ) (i j : Parser Block) (h : Lawful N SpellsBlock i j) where
  arm_law : Lawful N SpellsArm (arm i) (arm j)
  unfolding arm
  arm_law = bind (expr_law N) (λ a cond r. last (λ body. (cond, body)) h (λ b body t. SpellsArm.arm r t))

else_law_by : (M K : ℕ) (i j : Parser Block) (p q : Parser (List (Expr × Block) × Option Block)) → Lawful K SpellsBlock i j → Lawful K Elses p q → (v : NumberedLexemes) (at : ℕ) → Is (WordOf w.Else) v at → (f : NumberedLexemes) (b : Bool) → Eaten (WordOf w.If) f b → Lawful K (λ b y. Elses (v ++ (f ++ b)) y) (else_by i p b) (else_by j q b)
unfolding Elses
else_law_by M K i j p q h k v at e f true (eaten t) = bind (arm_law K i j h) (λ a x r. last (λ y. (x ∷ y.0, y.1)) k (λ b y rs. SpellsElse.else_if e t r rs))
else_law_by M K i j p q h k v at e f false left = last (λ body. ([], Some body)) h (λ b body r. SpellsElse.else_ e r)

else_turn_law_by : (M : ℕ) (i j : Parser Block) (p q : Parser (List (Expr × Block) × Option Block)) → Lawful (suc M) SpellsBlock i j → Lawful M Elses p q → (v : NumberedLexemes) (b : Bool) → Eaten (WordOf w.Else) v b → (K : ℕ) → K ≤ suc M - length v → Lawful K (λ b y. Elses (v ++ b) y) (else_turn_by i p b) (else_turn_by j q b)
else_turn_law_by M i j p q h k v true (eaten {at = at} e) K le = bind (of_eat_word w.If) (else_law_by M K i j p q (fewer K (suc M) (omega arith) h) (fewer K M (less K M e le) k) v at e)
else_turn_law_by M i j p q h k v false left K le = nothing no_elses

else_turn_law : (M : ℕ) (i j : Parser Block) (p q : Parser (List (Expr × Block) × Option Block)) → Lawful (suc M) SpellsBlock i j → Lawful M Elses p q → Lawful (suc M) Elses (else_turn i p) (else_turn j q)
else_turn_law M i j p q h k = bind_less (of_eat_word w.Else) (else_turn_law_by M i j p q h k)

elses_law : (N : ℕ) (i j : Parser Block) → Lawful N SpellsBlock i j → Lawful N Elses (elses i) (elses j)
unfolding elses
elses_law N i j h = knot else_turn (λ at. ([], ([], None), no_elses)) else_turn_law N i j h

pub elses_is : (i : Parser Block) → ((N : ℕ) → Lawful N SpellsBlock i i) → (ls : NumberedLexemes) → elses i ls ≡ else_turn i (elses i) ls
unfolding elses
elses_is i good ls = knot_is else_turn (λ at. ([], ([], None), no_elses)) else_turn_law i good ls

if_of : {v a : NumberedLexemes} {at : ℕ} {first : Expr × Block} (r : NumberedLexemes) (rest : List (Expr × Block) × Option Block) → Is (WordOf w.If) v at → SpellsArm a first → Elses r rest → SpellsStmt (v ++ (a ++ r)) (st.If (first ∷ rest.0) rest.1)
unfolding Elses
if_of b rest p r rs = SpellsStmt.if_ p r rs

while_of : {v a : NumberedLexemes} {at : ℕ} {first : Expr × Block} → Is (WordOf w.While) v at → SpellsArm a first → SpellsStmt (v ++ a) (st.While first.0 first.1)
while_of p (SpellsArm.arm r b) = SpellsStmt.while p (SpellsArm.arm r b)

module _ (N : ℕ) (i j : Parser Block) (h : Lawful N SpellsBlock i j) where
  if_law : Lawful (suc N) SpellsStmt (if_ i) (if_ j)
  unfolding if_
  if_law = bind_less (of_word w.If) (λ v at p K le. bind (arm_law K i j (fewer K N (less K N p le) h)) (λ a first r. last (λ rest. st.If (first ∷ rest.0) rest.1) (elses_law K i j (fewer K N (less K N p le) h)) (λ b rest rs. if_of b rest p r rs)))

  while_law : Lawful (suc N) SpellsStmt (while i) (while j)
  unfolding while
  while_law = bind_less (of_word w.While) (λ v at p K le. last (λ a. st.While a.0 a.1) (arm_law K i j (fewer K N (less K N p le) h)) (λ a first r. while_of p r))

  do_law : Lawful (suc N) SpellsStmt (invoke expr >>= (λ called. sign s.Semicolon >>= (λ _. pure (st.Do called)))) (invoke expr >>= (λ called. sign s.Semicolon >>= (λ _. pure (st.Do called))))
  do_law = bind (invoke_law N expr expr (expr_law N)) (λ a called r. last (λ _. st.Do called) (of_sign s.Semicolon) (λ c at p. SpellsStmt.do_ r p))

  stmt_law_by : (k : Option Kind) → Lawful (suc N) SpellsStmt (stmt_by i k) (stmt_by j k)
  stmt_law_by (Some (kind.Word w.Let)) = let_law
  stmt_law_by (Some kind.Name) = set_law
  stmt_law_by (Some (kind.Word w.If)) = if_law
  stmt_law_by (Some (kind.Word w.While)) = while_law
  stmt_law_by (Some (kind.Word w.Return)) = bind (of_word w.Return) (λ v at p. last (λ x. st.Return x) closed_law (λ b x r. return_of p r))
  stmt_law_by (Some (kind.Word w.Revert)) = bind (of_word w.Revert) (λ v at p. last (λ x. st.Revert x) closed_law (λ b x r. revert_of p r))
  stmt_law_by _ = do_law

  pub stmt_law : Lawful (suc N) SpellsStmt (stmt i) (stmt j)
  unfolding stmt
  stmt_law = chosen (stmt_by i) (stmt_by j) stmt_law_by

front_len : {l : Lexeme} {a : NumberedLexemes} {at : ℕ} (b : NumberedLexemes) → Is l a at → 0 < length (a ++ b)
front_len b (is at) = omega arith

invoke_len : {a : NumberedLexemes} {x : CallExpr} (b : NumberedLexemes) → SpellsInvoke a x → 0 < length (a ++ b)
invoke_len b (SpellsInvoke.call {w = v} {a = a} p r) = let some = is_len p in omega (arith, length-append (v ++ a) b, length-append v a)
invoke_len b (SpellsInvoke.internal {w = v} {d = d} {n = n} {a = a} p q r t) = let some = is_len p in omega (arith, length-append (v ++ (d ++ (n ++ a))) b, length-append v (d ++ (n ++ a)))

pub stmt_len : (a : NumberedLexemes) (x : Stmt) → SpellsStmt a x → 0 < length a
stmt_len a x (SpellsStmt.let_ p _ _ _ _ _ _) = front_len _ p
stmt_len a x (SpellsStmt.try_ p _ _ _ _ _ _ _) = front_len _ p
stmt_len a x (SpellsStmt.set p _ _ _) = front_len _ p
stmt_len a x (SpellsStmt.set_at p _ _ _ _ _ _) = front_len _ p
stmt_len a x (SpellsStmt.if_ p _ _) = front_len _ p
stmt_len a x (SpellsStmt.while p _) = front_len _ p
stmt_len a x (SpellsStmt.return p _ _) = front_len _ p
stmt_len a x (SpellsStmt.revert p _ _) = front_len _ p
stmt_len a x (SpellsStmt.do_ p _) = invoke_len _ p

one_block_law : (N : ℕ) (i j : Parser Block) → Lawful N SpellsBlock i j → Lawful (suc N) SpellsBlock (one_block i) (one_block j)
unfolding one_block
one_block_law N i j h = bind (of_sign s.OpenBrace) (λ o at p. bind (of_until SpellsStmt SpellsStmts (is_sign s.CloseBrace) stmt_len SpellsStmts.no_stmt (λ a b x xs r rs. SpellsStmts.stmts r rs) (suc N) (stmt i) (stmt j) (stmt_law N i j h)) (λ a stmts r. last (λ _. roll-Block (record { stmts = stmts })) (of_sign s.CloseBrace) (λ c at2 q. SpellsBlock.block p r q)))

-- ---- whole blocks

block_turn : Parser Block → Parser Block → Parser Block
block_turn _ p = one_block p

pub block_law : (N : ℕ) → Lawful N SpellsBlock block block
unfolding block block_turn
block_law N = knot {S = SpellsBlock} block_turn some_block (λ M i j p q _ k. one_block_law M p q k) N refuse refuse (refused some_block)

-- a block is read by the reader of the blocks in it
pub block_is : (ls : NumberedLexemes) → block ls ≡ one_block block ls
unfolding block block_turn
block_is ls = knot_is {S = SpellsBlock} block_turn some_block (λ M i j p q _ k. one_block_law M p q k) refuse (λ M. refused some_block) ls
