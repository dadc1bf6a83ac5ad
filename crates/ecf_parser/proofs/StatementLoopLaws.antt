-- What the loops over statements and over the arms of an `if` keep.
use Rattle.std.proofs.Common.{◌≡◌, ℕ, true, false, List, [], ◌∷◌, ◌++◌, Option, Some, None, Ok, Err, refl, sym, ap, ◌∙◌, append_assoc}
use Rattle.ecf_grammar.specs.declared.tokens.Word.TheVariants as w
use Rattle.ecf_grammar.specs.declared.tokens.Sign.TheVariants as s
use Rattle.ecf_lang.specs.declared.tree.Expr.{Expr}
use Rattle.ecf_lang.specs.declared.tree.Stmt.{Stmt}
use Rattle.ecf_lang.specs.declared.tree.Stmt.TheVariants as st
use Rattle.ecf_lang.specs.declared.tree.Block.{Block}
use Rattle.ecf_grammar.specs.Lexemes.{NumberedLexemes}
use Rattle.ecf_parser.specs.Parsers.{Parse, and_then, ◌>>=◌, pure, next, word, eat_word, is_sign, until, front}
use Rattle.ecf_parser.specs.Descent.{arm, else_by, else_turn_by, elses, while, stmt, one_block, block}
use Rattle.ecf_parser.proofs.StatementLaws.{block_is}
use Rattle.ecf_parser.proofs.LoopLaws.{front_nothing, until_more, until_stuck, until_over}
use Rattle.ecf_parser.proofs.TakeLaws.{via}
use Rattle.ecf_parser.proofs.TakeStatementLaws.{opens_elses, opens_stmts}

-- ---- blocks

pub block_by : (ls : NumberedLexemes) (o : Parse Block) → one_block block ls ≡ o → block ls ≡ o
block_by ls o h = block_is ls ∙ h

-- ---- statements

pub stmts_more : (xs : List Stmt) (ls rest : NumberedLexemes) (x : Stmt) → is_sign s.CloseBrace (next ls) ≡ false → stmt block ls ≡ Ok (x, rest) → front xs (until (is_sign s.CloseBrace) (stmt block) ls) ≡ front (xs ++ x ∷ []) (until (is_sign s.CloseBrace) (stmt block) rest)
stmts_more = until_more (is_sign s.CloseBrace) (stmt block) opens_stmts

pub stmts_stuck : (xs : List Stmt) (ls rest : NumberedLexemes) → is_sign s.CloseBrace (next ls) ≡ false → stmt block ls ≡ Err rest → front xs (until (is_sign s.CloseBrace) (stmt block) ls) ≡ Err rest
stmts_stuck = until_stuck (is_sign s.CloseBrace) (stmt block) opens_stmts

pub stmts_over : (xs : List Stmt) (ls : NumberedLexemes) → is_sign s.CloseBrace (next ls) ≡ true → front xs (until (is_sign s.CloseBrace) (stmt block) ls) ≡ Ok (xs, ls)
stmts_over = until_over (is_sign s.CloseBrace) (stmt block) opens_stmts

-- ---- `while`

pub while_done : (ls mid rest : NumberedLexemes) (at : ℕ) (x : Expr × Block) → word w.While ls ≡ Ok (at, mid) → arm block mid ≡ Ok (x, rest) → while block ls ≡ Ok (st.While x.0 x.1, rest)
unfolding while
while_done ls mid rest at x e k = via _ e (via _ k refl)

pub while_first : (ls rest : NumberedLexemes) → word w.While ls ≡ Err rest → while block ls ≡ Err rest
unfolding while
while_first ls rest e = ap (λ o. and_then o (λ _. arm block >>= (λ a. pure (st.While a.0 a.1)))) e

pub while_rest : (ls mid rest : NumberedLexemes) (at : ℕ) → word w.While ls ≡ Ok (at, mid) → arm block mid ≡ Err rest → while block ls ≡ Err rest
unfolding while
while_rest ls mid rest at e k = via _ e (ap (λ o. and_then o (λ a. pure (st.While a.0 a.1))) k)

-- ---- arms

-- the arms so far, in front of what reading the rest gives
unfoldable pub behind_arms : List (Expr × Block) → Parse (List (Expr × Block) × Option Block) → Parse (List (Expr × Block) × Option Block)
behind_arms xs (Ok p) = Ok ((xs ++ p.0.0, p.0.1), p.1)
behind_arms xs (Err e) = Err e

pub arms_nil : (o : Parse (List (Expr × Block) × Option Block)) → behind_arms [] o ≡ o
unfolding behind_arms
arms_nil (Ok p) = refl
arms_nil (Err e) = refl

arms_push : (xs : List (Expr × Block)) (x : Expr × Block) (o : Parse (List (Expr × Block) × Option Block)) → behind_arms xs (and_then o (λ r. pure (x ∷ r.0, r.1))) ≡ behind_arms (xs ++ x ∷ []) o
unfolding behind_arms
arms_push xs x (Ok p) = ap (λ t. Ok ((t, p.0.1), p.1)) (sym (append_assoc xs (x ∷ []) p.0.0))
arms_push xs x (Err e) = refl

pub arms_more : (xs : List (Expr × Block)) (ls mid inner rest : NumberedLexemes) (x : Expr × Block) → eat_word w.Else ls ≡ Ok (true, mid) → eat_word w.If mid ≡ Ok (true, inner) → arm block inner ≡ Ok (x, rest) → behind_arms xs (elses block ls) ≡ behind_arms (xs ++ x ∷ []) (elses block rest)
arms_more xs ls mid inner rest x e i k =
    ap (behind_arms xs) (opens_elses ls ∙ via (else_turn_by block (elses block)) e (via (else_by block (elses block)) i (via _ k refl)))
    ∙ arms_push xs x (elses block rest)

pub arms_stuck : (xs : List (Expr × Block)) (ls mid inner rest : NumberedLexemes) → eat_word w.Else ls ≡ Ok (true, mid) → eat_word w.If mid ≡ Ok (true, inner) → arm block inner ≡ Err rest → behind_arms xs (elses block ls) ≡ Err rest
unfolding behind_arms
arms_stuck xs ls mid inner rest e i k = ap (behind_arms xs) (opens_elses ls ∙ via (else_turn_by block (elses block)) e (via (else_by block (elses block)) i (ap (λ z. and_then z (λ a. elses block >>= (λ r. pure (a ∷ r.0, r.1)))) k)))

pub last_more : (xs : List (Expr × Block)) (ls mid inner rest : NumberedLexemes) (x : Block) → eat_word w.Else ls ≡ Ok (true, mid) → eat_word w.If mid ≡ Ok (false, inner) → block inner ≡ Ok (x, rest) → behind_arms xs (elses block ls) ≡ Ok ((xs, Some x), rest)
unfolding behind_arms
last_more xs ls mid inner rest x e i k =
    ap (behind_arms xs) (opens_elses ls ∙ via (else_turn_by block (elses block)) e (via (else_by block (elses block)) i (via _ k refl)))
    ∙ ap (λ t. Ok ((t, Some x), rest)) (front_nothing xs)

pub last_stuck : (xs : List (Expr × Block)) (ls mid inner rest : NumberedLexemes) → eat_word w.Else ls ≡ Ok (true, mid) → eat_word w.If mid ≡ Ok (false, inner) → block inner ≡ Err rest → behind_arms xs (elses block ls) ≡ Err rest
unfolding behind_arms
last_stuck xs ls mid inner rest e i k = ap (behind_arms xs) (opens_elses ls ∙ via (else_turn_by block (elses block)) e (via (else_by block (elses block)) i (ap (λ z. and_then z (λ body. pure ([], Some body))) k)))

pub arms_over : (xs : List (Expr × Block)) (ls mid : NumberedLexemes) → eat_word w.Else ls ≡ Ok (false, mid) → behind_arms xs (elses block ls) ≡ Ok ((xs, None), mid)
unfolding behind_arms
arms_over xs ls mid e = ap (behind_arms xs) (opens_elses ls ∙ via (else_turn_by block (elses block)) e refl) ∙ ap (λ t. Ok ((t, None), mid)) (front_nothing xs)
