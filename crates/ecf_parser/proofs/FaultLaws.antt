-- What the outcome of reading a file says of its lexemes.
use Rattle.std.proofs.Common.{◌≡◌, ℕ, zero, suc, ◌+◌, ◌-◌, ◌<◌, ◌≤◌, List, [], ◌∷◌, ◌++◌, length, take, Ok, Err, refl, sym, ap, subst, ◌∙◌, arith, append_assoc, length-append}
use Rattle.ecf_lang.specs.declared.tree.Tree.{Tree}
use Rattle.ecf_grammar.specs.Lexemes.{Lexeme, NumberedLexemes, with_numbers}
use Rattle.ecf_grammar.specs.Spells.{SpellsFile, Spells, BeginsFile, EndsFiles, OneTree}
use Rattle.ecf_parser.specs.Parsers.{Parse, Parser, and_then, pure, fix_of, fix, until, until_turn}
use Rattle.ecf_parser.specs.Descent.{object, at_end, file}
use Rattle.ecf_parser.proofs.ParserLaws.{append_nil, Completes, Good, Agree, with_numbers_append}
use Rattle.ecf_parser.proofs.ParserLaws.Good.{reads, stuck}
use Rattle.ecf_parser.proofs.ParserLaws.Agree.{both_ok, both_err, far_ok, far_err}
use Rattle.ecf_parser.proofs.FileLaws.{file_law}
use Rattle.ecf_parser.proofs.TakeFileLaws.{file_reads}

-- ---- what is read as a file is read to the end

Finished : {A : Type 0} → Parse A → Type 0
Finished (Ok p) = p.1 ≡ []
Finished (Err e) = Unit {0}

finished_last : {A B : Type 0} (o : Parse A) (f : A → B) → Finished o → Finished (and_then o (λ x. pure (f x)))
unfolding Finished
finished_last (Ok p) f h = h
finished_last (Err e) f h = h

finished_then : {A B : Type 0} (o : Parse A) (f : A → Parser B) → ((x : A) (rest : NumberedLexemes) → Finished (f x rest)) → Finished (and_then o f)
unfolding Finished
finished_then (Ok p) f h = h p.0 p.1
finished_then (Err e) f h = tt

objects_finish : (n : ℕ) (ls : NumberedLexemes) → Finished (fix_of (until_turn at_end object) n ls)
unfolding Finished
objects_finish zero ls = tt
objects_finish (suc n) [] = refl
objects_finish (suc n) (l ∷ ls) = finished_then (object (l ∷ ls)) _ (λ x rest. finished_last (fix_of (until_turn at_end object) n rest) (λ xs. x ∷ xs) (objects_finish n rest))

file_finishes : (ls : NumberedLexemes) → Finished (file ls)
unfolding file until fix
file_finishes ls = finished_then (object ls) _ (λ x rest. finished_last (until at_end object rest) (λ xs. record { objects = x ∷ xs }) (objects_finish (suc (length rest)) rest))

finished_ok : {A : Type 0} (o : Parse A) (x : A) (rest : NumberedLexemes) → Finished o → o ≡ Ok (x, rest) → rest ≡ []
unfolding Finished
finished_ok {A} o x rest h e = let at_last : Finished (Ok (x, rest)) = subst (λ t. Finished t) e h in at_last

-- ---- numbers

with_numbers_len : (at : ℕ) (ls : List Lexeme) → length (with_numbers at ls) ≡ length ls
with_numbers_len at [] = refl
with_numbers_len at (l ∷ ls) = omega (arith, with_numbers_len (at + 1) ls)

-- a front of numbered lexemes is the numbered front
with_numbers_front : (at : ℕ) (ls : List Lexeme) (a rest : NumberedLexemes) → with_numbers at ls ≡ a ++ rest → a ≡ with_numbers at (take (length a) ls)
with_numbers_front at ls [] rest e = refl
with_numbers_front at [] (x ∷ a) rest e = absurd cc
with_numbers_front at (l ∷ ls) (x ∷ a) rest e =
    let tail : with_numbers (at + 1) ls ≡ a ++ rest = cc in
    let head : (at, l) ≡ x = cc in
    let more : a ≡ with_numbers (at + 1) (take (length a) ls) = with_numbers_front (at + 1) ls a rest tail in
    ap (λ t. t ∷ a) (sym head) ∙ ap (λ t. (at, l) ∷ t) more

pub nil_end : (a : List Lexeme) → a ++ [] ≡ a
nil_end [] = refl
nil_end (x ∷ a) = ap (λ t. x ∷ t) (nil_end a)

pub take_all : (n : ℕ) (ls : List Lexeme) → length ls ≤ n → take n ls ≡ ls
take_all zero [] h = refl
take_all (suc n) [] h = refl
take_all zero (l ∷ ls) h = absurd (omega arith)
take_all (suc n) (l ∷ ls) h = ap (λ t. l ∷ t) (take_all n ls (omega arith))

pub take_len : (n : ℕ) (ls : List Lexeme) → n ≤ length ls → length (take n ls) ≡ n
take_len zero ls h = refl
take_len (suc n) [] h = absurd (omega arith)
take_len (suc n) (l ∷ ls) h = omega (arith, take_len n ls (omega arith))

pub take_take : (m n : ℕ) (ls : List Lexeme) → m ≤ n → take m (take n ls) ≡ take m ls
take_take zero n ls h = refl
take_take (suc m) zero ls h = absurd (omega arith)
take_take (suc m) (suc n) [] h = refl
take_take (suc m) (suc n) (l ∷ ls) h = ap (λ t. l ∷ t) (take_take m n ls (omega arith))

-- ---- a tree

good_spelled : (ls : NumberedLexemes) (o : Parse Tree) (tree : Tree) → Good SpellsFile ls o → o ≡ Ok (tree, []) → SpellsFile ls tree
good_spelled ls o tree (reads a rest x e r) g =
    let f : x ≡ tree = ap (λ (t : Parse Tree). elim t [ Ok p ↦ p.0 | Err q ↦ x ]) g in
    let k : rest ≡ [] = ap (λ (t : Parse Tree). elim t [ Ok p ↦ p.1 | Err q ↦ rest ]) g in
    let whole : ls ≡ a = e ∙ ap (λ t. a ++ t) k ∙ append_nil a in
    subst (λ t. SpellsFile ls t) f (subst (λ t. SpellsFile t x) (sym whole) r)
good_spelled ls o tree (stuck a rest e c) g = absurd cc

-- what is read is spelled, and to the end
pub read_is_spelled : (lexemes : List Lexeme) (tree : Tree) (rest : NumberedLexemes) → file (with_numbers 0 lexemes) ≡ Ok (tree, rest) → Spells lexemes tree
read_is_spelled lexemes tree rest e =
    let over : rest ≡ [] = finished_ok (file (with_numbers 0 lexemes)) tree rest (file_finishes (with_numbers 0 lexemes)) e in
    good_spelled (with_numbers 0 lexemes) (file (with_numbers 0 lexemes)) tree ((file_law {N = 0}).good (with_numbers 0 lexemes)) (e ∙ ap (λ t. Ok (tree, t)) over)

pub one_tree : OneTree
one_tree lexemes tree other p q =
    ap (λ (t : Parse Tree). elim t [ Ok r ↦ r.0 | Err s ↦ tree ]) (sym (file_reads p) ∙ file_reads q)

-- ---- a fault

-- how reading stops: behind a front that can be completed
pub record Stops (lexemes : List Lexeme) (rest : NumberedLexemes) : Type 0 where
  pub front : NumberedLexemes
  pub whole : with_numbers 0 lexemes ≡ front ++ rest
  pub some : Completes SpellsFile front

good_stops : (lexemes : List Lexeme) (o : Parse Tree) (rest : NumberedLexemes) → Good SpellsFile (with_numbers 0 lexemes) o → o ≡ Err rest → Stops lexemes rest
good_stops lexemes o rest (reads a r x e h) g = absurd cc
good_stops lexemes o rest (stuck a r e c) g = let same : r ≡ rest = cc in record { front = a; whole = e ∙ ap (λ t. a ++ t) same; some = c }

pub fault_stops : (lexemes : List Lexeme) (rest : NumberedLexemes) → file (with_numbers 0 lexemes) ≡ Err rest → Stops lexemes rest
fault_stops lexemes rest e = good_stops lexemes (file (with_numbers 0 lexemes)) rest ((file_law {N = 0}).good (with_numbers 0 lexemes)) e

pub stop_len : (lexemes : List Lexeme) (rest : NumberedLexemes) (h : Stops lexemes rest) → length h.front + length rest ≡ length lexemes
stop_len lexemes rest h = omega (arith, with_numbers_len 0 lexemes, ap length h.whole, length-append h.front rest)

-- what comes before a fault begins some file
pub fault_before : (lexemes : List Lexeme) (rest : NumberedLexemes) → Stops lexemes rest → BeginsFile (take (length lexemes - length rest) lexemes)
fault_before lexemes rest h =
    let k : ℕ = length h.front in
    let at : length lexemes - length rest ≡ k = omega (arith, stop_len lexemes rest h) in
    let front : List Lexeme = take k lexemes in
    let is_front : h.front ≡ with_numbers 0 front = with_numbers_front 0 lexemes h.front rest h.whole in
    let found = h.some k in
    let len : 0 + length front ≡ k = omega (arith, take_len k lexemes (omega (arith, stop_len lexemes rest h))) in
    let e : h.front ++ with_numbers k found.0 ≡ with_numbers 0 (front ++ found.0) =
    ap (λ t. t ++ with_numbers k found.0) is_front ∙ ap (λ n. with_numbers 0 front ++ with_numbers n found.0) (sym len) ∙ sym (with_numbers_append 0 front found.0) in
    let spelled : Spells (front ++ found.0) found.1 = subst (λ t. SpellsFile t found.1) e found.2 in
    subst (λ n. BeginsFile (take n lexemes)) (sym at) (found.0, found.1, spelled)

no_agree : (c d : NumberedLexemes) (t : ℕ × Lexeme) (tree : Tree) (o q : Parse Tree) → Agree c d o q → o ≡ Err (t ∷ c) → q ≡ Ok (tree, []) → ⊥
no_agree c d t tree o q (both_ok x l r) e g = absurd cc
no_agree c d t tree o q (both_err l r) e g = absurd cc
no_agree c d t tree o q (far_ok x rest w le) e g = absurd cc
no_agree c d t tree o q (far_err rest w le) e g = let same : rest ≡ t ∷ c = cc in absurd (omega (arith, ap length same))

none_with : (lexemes : List Lexeme) (t : ℕ × Lexeme) (c : NumberedLexemes) → file (with_numbers 0 lexemes) ≡ Err (t ∷ c) → BeginsFile (take (length lexemes - length c) lexemes) → ⊥
none_with lexemes t c e begins =
    let h = fault_stops lexemes (t ∷ c) e in
    let ls : NumberedLexemes = h.front ++ (t ∷ []) in
    let whole : with_numbers 0 lexemes ≡ ls ++ c = h.whole ∙ sym (append_assoc h.front (t ∷ []) c) in
    let at : length ls ≡ length lexemes - length c = omega (arith, stop_len lexemes (t ∷ c) h, length-append h.front (t ∷ [])) in
    let is_front : ls ≡ with_numbers 0 (take (length lexemes - length c) lexemes) = with_numbers_front 0 lexemes ls c whole ∙ ap (λ n. with_numbers 0 (take n lexemes)) at in
    let front : List Lexeme = take (length lexemes - length c) lexemes in
    let d : NumberedLexemes = with_numbers (0 + length front) begins.0 in
    let other : with_numbers 0 (front ++ begins.0) ≡ ls ++ d = with_numbers_append 0 front begins.0 ∙ ap (λ t. t ++ d) (sym is_front) in
    let stopped : file (ls ++ c) ≡ Err (t ∷ c) = ap file (sym whole) ∙ e in
    let accepted : file (ls ++ d) ≡ Ok (begins.1, []) = ap file (sym other) ∙ file_reads begins.2 in
    no_agree c d t begins.1 (file (ls ++ c)) (file (ls ++ d)) ((file_law {N = suc (length ls)}).steady ls c d (omega arith)) stopped accepted

none_through : (lexemes : List Lexeme) (rest : NumberedLexemes) → file (with_numbers 0 lexemes) ≡ Err rest → length lexemes - length rest < length lexemes → BeginsFile (take (length lexemes - length rest + 1) lexemes) → ⊥
none_through lexemes [] e small begins = absurd (omega arith)
none_through lexemes (t ∷ c) e small begins =
    let h = fault_stops lexemes (t ∷ c) e in
    let at : length lexemes - length (t ∷ c) + 1 ≡ length lexemes - length c = omega (arith, stop_len lexemes (t ∷ c) h) in
    none_with lexemes t c e (subst (λ n. BeginsFile (take n lexemes)) at begins)

none_at_all : (lexemes : List Lexeme) (rest : NumberedLexemes) (tree : Tree) → file (with_numbers 0 lexemes) ≡ Err rest → Spells lexemes tree → ⊥
none_at_all lexemes rest tree e p = let g = file_reads p in absurd cc

-- no file begins with what comes before a fault and the lexeme there
pub fault_ends : (lexemes : List Lexeme) (rest : NumberedLexemes) → file (with_numbers 0 lexemes) ≡ Err rest → EndsFiles lexemes (length lexemes - length rest)
fault_ends lexemes rest e = record {
  within = omega arith;
  none = none_through lexemes rest e;
  over = λ _ tree. none_at_all lexemes rest tree e;
}
