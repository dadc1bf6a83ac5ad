-- What holds of readers, whatever they are put together from.
use Rattle.std.proofs.Common.{◌≡◌, ℕ, zero, suc, ◌+◌, ◌-◌, ◌<◌, ◌≤◌, Bool, true, false, cond, List, [], ◌∷◌, ◌++◌, length, Option, Some, Ok, Err, refl, sym, ap, subst, ◌∙◌, arith, append_assoc, length-append}
use Rattle.ecf_grammar.specs.declared.tokens.Kind.{Kind}
use Rattle.ecf_grammar.specs.Lexemes.{Lexeme, NumberedLexemes, with_numbers}
use Rattle.ecf_parser.specs.Parsers.{Parse, Parser, and_then, ◌>>=◌, pure, refuse, choose, when, next, kind_of, fix_of, fix}

-- some lexemes complete these, from whatever number on
abbrev pub Completes : {A : Type 0} → (NumberedLexemes → A → Type 0) → NumberedLexemes → Type 0
Completes {A} R a = (at : ℕ) → (more : List Lexeme) × (x : A) × R (a ++ with_numbers at more) x

-- what was read is related, or what comes before the fault can be completed
pub data Good {A : Type 0} (R : NumberedLexemes → A → Type 0) (ls : NumberedLexemes) : Parse A → Type 0 where
  reads : (a rest : NumberedLexemes) (x : A) → ls ≡ a ++ rest → R a x → Good R ls (Ok (x, rest))
  stuck : (a rest : NumberedLexemes) → ls ≡ a ++ rest → Completes R a → Good R ls (Err rest)

-- two readers of a common front with something different behind it: they give the same with some of the front left, or the first goes beyond the front
pub data Agree {A : Type 0} (c d : NumberedLexemes) : Parse A → Parse A → Type 0 where
  both_ok : (x : A) (l : ℕ × Lexeme) (r : NumberedLexemes) → Agree c d (Ok (x, l ∷ (r ++ c))) (Ok (x, l ∷ (r ++ d)))
  both_err : (l : ℕ × Lexeme) (r : NumberedLexemes) → Agree c d (Err (l ∷ (r ++ c))) (Err (l ∷ (r ++ d)))
  far_ok : (x : A) (rest : NumberedLexemes) (o : Parse A) → length rest ≤ length c → Agree c d (Ok (x, rest)) o
  far_err : (rest : NumberedLexemes) (o : Parse A) → length rest ≤ length c → Agree c d (Err rest) o

-- two readers do well, are the same where fewer lexemes are left, and agree on a shorter front
pub record Lawful {A : Type 0} (N : ℕ) (R : NumberedLexemes → A → Type 0) (p q : Parser A) : Type 0 where
  pub good : (ls : NumberedLexemes) → Good R ls (p ls)
  pub same : (ls : NumberedLexemes) → length ls < N → p ls ≡ q ls
  pub steady : (ls c d : NumberedLexemes) → length ls < N → Agree c d (p (ls ++ c)) (q (ls ++ d))

rest_len : (ls a rest : NumberedLexemes) → ls ≡ a ++ rest → length ls ≡ length a + length rest
rest_len ls a rest e = ap length e ∙ length-append a rest

-- without a front, the first goes beyond it
far : {A : Type 0} {R : NumberedLexemes → A → Type 0} {c : NumberedLexemes} (d : NumberedLexemes) (o q : Parse A) → Good R c o → Agree c d o q
far {c = c} d o q (reads a rest x e r) = far_ok x rest q (omega (arith, rest_len c a rest e))
far {c = c} d o q (stuck a rest e r) = far_err rest q (omega (arith, rest_len c a rest e))

-- a reader that looks at the next lexeme alone
pub data Local {A : Type 0} (l : ℕ × Lexeme) (p : Parser A) : Type 0 where
  takes : (x : A) → ((ls : NumberedLexemes) → p (l ∷ ls) ≡ Ok (x, ls)) → Local l p
  leaves : (x : A) → ((ls : NumberedLexemes) → p (l ∷ ls) ≡ Ok (x, l ∷ ls)) → Local l p
  fails : ((ls : NumberedLexemes) → p (l ∷ ls) ≡ Err (l ∷ ls)) → Local l p

along : {A : Type 0} {c d : NumberedLexemes} (o q v w : Parse A) → o ≡ v → q ≡ w → Agree c d v w → Agree c d o q
along {A} {c} {d} o q v w e f h = subst (λ t. Agree c d t q) (sym e) (subst (λ t. Agree c d v t) (sym f) h)

took_agree : {A : Type 0} (x : A) (ls c d : NumberedLexemes) → Agree c d (Ok (x, ls ++ c)) (Ok (x, ls ++ d))
took_agree x [] c d = far_ok x c (Ok (x, d)) (omega arith)
took_agree x (l ∷ ls) c d = both_ok x l ls

local_agree : {A : Type 0} (p : Parser A) (l : ℕ × Lexeme) (ls c d : NumberedLexemes) → Local l p → Agree c d (p (l ∷ (ls ++ c))) (p (l ∷ (ls ++ d)))
local_agree p l ls c d (takes x h) = along (p (l ∷ (ls ++ c))) (p (l ∷ (ls ++ d))) (Ok (x, ls ++ c)) (Ok (x, ls ++ d)) (h (ls ++ c)) (h (ls ++ d)) (took_agree x ls c d)
local_agree p l ls c d (leaves x h) = along (p (l ∷ (ls ++ c))) (p (l ∷ (ls ++ d))) (Ok (x, l ∷ (ls ++ c))) (Ok (x, l ∷ (ls ++ d))) (h (ls ++ c)) (h (ls ++ d)) (both_ok x l ls)
local_agree p l ls c d (fails h) = along (p (l ∷ (ls ++ c))) (p (l ∷ (ls ++ d))) (Err (l ∷ (ls ++ c))) (Err (l ∷ (ls ++ d))) (h (ls ++ c)) (h (ls ++ d)) (both_err l ls)

single_steady : {A : Type 0} {R : NumberedLexemes → A → Type 0} (p : Parser A) → ((ls : NumberedLexemes) → Good R ls (p ls)) → ((l : ℕ × Lexeme) → Local l p) → (ls c d : NumberedLexemes) → Agree c d (p (ls ++ c)) (p (ls ++ d))
single_steady p good one [] c d = far d (p c) (p d) (good c)
single_steady p good one (l ∷ ls) c d = local_agree p l ls c d (one l)

pub single : {A : Type 0} {R : NumberedLexemes → A → Type 0} (N : ℕ) (p : Parser A) → ((ls : NumberedLexemes) → Good R ls (p ls)) → ((l : ℕ × Lexeme) → Local l p) → Lawful N R p p
single N p good one = record { good = good; same = λ ls _. refl; steady = λ ls c d _. single_steady p good one ls c d }

empty_steady : {A : Type 0} {R : NumberedLexemes → A → Type 0} (p : Parser A) → ((ls : NumberedLexemes) → Good R ls (p ls)) → (ls c d : NumberedLexemes) → length ls < 1 → Agree c d (p (ls ++ c)) (p (ls ++ d))
empty_steady p good [] c d h = far d (p c) (p d) (good c)
empty_steady p good (l ∷ ls) c d h = absurd (omega arith)

-- where no lexeme of a front is looked at, to do well is enough
self : {A : Type 0} {R : NumberedLexemes → A → Type 0} (p : Parser A) → ((ls : NumberedLexemes) → Good R ls (p ls)) → Lawful 1 R p p
self p good = record { good = good; same = λ ls _. refl; steady = empty_steady p good }

pub fewer : {A : Type 0} {R : NumberedLexemes → A → Type 0} {p q : Parser A} (M N : ℕ) → M ≤ N → Lawful N R p q → Lawful M R p q
fewer M N le h = record { good = h.good; same = λ ls small. h.same ls (omega arith); steady = λ ls c d small. h.steady ls c d (omega arith) }

-- ---- lists

pub append_nil : {A : Type 0} (a : List A) → a ++ [] ≡ a
append_nil [] = refl
append_nil (x ∷ a) = ap (λ t. x ∷ t) (append_nil a)

pub with_numbers_append : (at : ℕ) (a b : List Lexeme) → with_numbers at (a ++ b) ≡ with_numbers at a ++ with_numbers (at + length a) b
with_numbers_append at [] b = ap (λ n. with_numbers n b) (omega arith)
with_numbers_append at (x ∷ a) b =
    let e : at + 1 + length a ≡ at + length (x ∷ a) = omega arith in
    ap (λ t. (at, x) ∷ t) (with_numbers_append (at + 1) a b ∙ ap (λ n. with_numbers (at + 1) a ++ with_numbers n b) e)

no_front : (a b : NumberedLexemes) → [] ≡ a ++ b → a ≡ []
no_front [] b e = refl
no_front (x ∷ a) b e = cc

-- ---- one behind the other

shift : {B : Type 0} {R : NumberedLexemes → B → Type 0} {ls : NumberedLexemes} (a rest : NumberedLexemes) (o : Parse B) → ls ≡ a ++ rest → Good (λ b y. R (a ++ b) y) rest o → Good R ls o
shift {B} {R} a rest o e (reads b more y f r) = reads (a ++ b) more y (e ∙ ap (λ t. a ++ t) f ∙ sym (append_assoc a b more)) r
shift {B} {R} a rest o e (stuck b more f c) = stuck (a ++ b) more (e ∙ ap (λ t. a ++ t) f ∙ sym (append_assoc a b more)) (λ at. let found = c at in (found.0, found.1, subst (λ t. R t found.1) (sym (append_assoc a b (with_numbers at found.0))) found.2))

-- what reads nothing shows that there is something to read
possible : {B : Type 0} {R : NumberedLexemes → B → Type 0} (o : Parse B) → Good R [] o → Completes R []
possible {B} {R} o (reads b more y e r) = λ at. ([], y, subst (λ t. R t y) (no_front b more e) r)
possible {B} {R} o (stuck b more e c) = λ at. let found = c at in (found.0, found.1, subst (λ t. R (t ++ with_numbers at found.0) found.1) (no_front b more e) found.2)

abbrev Goes : {A B : Type 0} → (NumberedLexemes → A → Type 0) → (NumberedLexemes → B → Type 0) → (A → Parser B) → Type 0
Goes {A} {B} Part R f = (a : NumberedLexemes) (x : A) → Part a x → (ls : NumberedLexemes) → Good (λ b y. R (a ++ b) y) ls (f x ls)

complete_both : {A B : Type 0} (Part : NumberedLexemes → A → Type 0) (R : NumberedLexemes → B → Type 0) (f : A → Parser B) (a : NumberedLexemes) → Completes Part a → Goes Part R f → Completes R a
complete_both Part R f a c goes = λ at.
    let first = c at in
    let so_far : NumberedLexemes = a ++ with_numbers at first.0 in
    let then_ : Completes (λ b y. R (so_far ++ b) y) [] = possible (f first.1 []) (goes so_far first.1 first.2 []) in
    let second = then_ (at + length first.0) in
    let e : so_far ++ with_numbers (at + length first.0) second.0 ≡ a ++ with_numbers at (first.0 ++ second.0) =
    append_assoc a (with_numbers at first.0) (with_numbers (at + length first.0) second.0) ∙ ap (λ t. a ++ t) (sym (with_numbers_append at first.0 second.0)) in
    (first.0 ++ second.0, second.1, subst (λ t. R t second.1) e second.2)

good_bind : {A B : Type 0} {Part : NumberedLexemes → A → Type 0} {R : NumberedLexemes → B → Type 0} (ls : NumberedLexemes) (o : Parse A) (f : A → Parser B) → Good Part ls o → Goes Part R f → Good R ls (and_then o f)
good_bind {A} {B} {Part} {R} ls o f (reads a rest x e r) goes = shift a rest (f x rest) e (goes a x r rest)
good_bind {A} {B} {Part} {R} ls o f (stuck a rest e c) goes = stuck a rest e (complete_both Part R f a c goes)

same_then : {A B : Type 0} {Part : NumberedLexemes → A → Type 0} (ls : NumberedLexemes) (o : Parse A) (f g : A → Parser B) → Good Part ls o → ((a rest : NumberedLexemes) (x : A) → ls ≡ a ++ rest → Part a x → f x rest ≡ g x rest) → and_then o f ≡ and_then o g
same_then ls o f g (reads a rest x e r) h = h a rest x e r
same_then ls o f g (stuck a rest e c) h = refl

abbrev pair_of : {A : Type 0} → A → NumberedLexemes → A × NumberedLexemes
pair_of x r = (x, r)

pub good_ok : {A : Type 0} {R : NumberedLexemes → A → Type 0} {ls : NumberedLexemes} (o : Parse A) (x : A) (rest : NumberedLexemes) → Good R ls o → o ≡ Ok (x, rest) → (a : NumberedLexemes) × (ls ≡ a ++ rest) × R a x
good_ok {A} {R = R} o x rest (reads a r y e h) g = let pair : pair_of y r ≡ pair_of x rest = cc in let f : y ≡ x = ap (λ (t : A × NumberedLexemes). t.0) pair in let k : r ≡ rest = ap (λ (t : A × NumberedLexemes). t.1) pair in (a, e ∙ ap (λ t. a ++ t) k, subst (λ t. R a t) f h)
good_ok o x rest (stuck a r e h) g = absurd cc

grow : {A : Type 0} {R : NumberedLexemes → A → Type 0} {ls c : NumberedLexemes} (d : NumberedLexemes) (o q : Parse A) → length ls ≤ length c → Good R ls o → Agree c d o q
grow {ls = ls} d o q le (reads a rest x e r) = far_ok x rest q (omega (arith, rest_len ls a rest e))
grow {ls = ls} d o q le (stuck a rest e r) = far_err rest q (omega (arith, rest_len ls a rest e))

agree_then : {A B : Type 0} (Part : NumberedLexemes → A → Type 0) (R : NumberedLexemes → B → Type 0) {c d : NumberedLexemes} (ls : NumberedLexemes) (o q : Parse A) (f g : A → Parser B) → Agree c d o q → Good Part ls o → Goes Part R f → ((a r : NumberedLexemes) (x : A) → ls ≡ a ++ (r ++ c) → Part a x → Agree c d (f x (r ++ c)) (g x (r ++ d))) → Agree c d (and_then o f) (and_then q g)
agree_then Part R {c = c} ls o q f g (both_ok x l r) good goes on = let found = good_ok o x (l ∷ (r ++ c)) good refl in on found.0 (l ∷ r) x found.1 found.2
agree_then Part R ls o q f g (both_err l r) good goes on = both_err l r
agree_then Part R {d = d} ls o q f g (far_ok x rest w le) good goes on = let found = good_ok o x rest good refl in grow d (f x rest) (and_then q g) le (goes found.0 x found.2 rest)
agree_then Part R ls o q f g (far_err rest w le) good goes on = far_err rest (and_then q g) le

front_len : (ls c a r : NumberedLexemes) → ls ++ c ≡ a ++ (r ++ c) → length ls ≡ length a + length r
front_len ls c a r e = omega (arith, ap length e, length-append ls c, length-append a (r ++ c), length-append r c)

pub bind : {A B : Type 0} {N : ℕ} {Part : NumberedLexemes → A → Type 0} {R : NumberedLexemes → B → Type 0} {p q : Parser A} {f g : A → Parser B} → Lawful N Part p q → ((a : NumberedLexemes) (x : A) → Part a x → Lawful N (λ b y. R (a ++ b) y) (f x) (g x)) → Lawful N R (p >>= f) (q >>= g)
bind {A} {B} {N} {Part} {R} {p} {q} {f} {g} h k = record {
  good = λ ls. good_bind ls (p ls) f (h.good ls) (λ a x r. (k a x r).good);
  same = λ ls small. same_then ls (p ls) f g (h.good ls) (λ a rest x e r. (k a x r).same rest (omega (arith, rest_len ls a rest e))) ∙ ap (λ o. and_then o g) (h.same ls small);
  steady = λ ls c d small. agree_then Part R (ls ++ c) (p (ls ++ c)) (q (ls ++ d)) f g (h.steady ls c d small) (h.good (ls ++ c)) (λ a x r. (k a x r).good) (λ a r x e t. (k a x t).steady r c d (omega (arith, front_len ls c a r e)));
}

-- the same where what the first takes leaves fewer for the second
pub bind_less : {A B : Type 0} {N : ℕ} {Part : NumberedLexemes → A → Type 0} {R : NumberedLexemes → B → Type 0} {p q : Parser A} {f g : A → Parser B} → Lawful N Part p q → ((a : NumberedLexemes) (x : A) → Part a x → (M : ℕ) → M ≤ N - length a → Lawful M (λ b y. R (a ++ b) y) (f x) (g x)) → Lawful N R (p >>= f) (q >>= g)
bind_less {A} {B} {N} {Part} {R} {p} {q} {f} {g} h k = record {
  good = λ ls. good_bind ls (p ls) f (h.good ls) (λ a x r. (k a x r 0 (omega arith)).good);
  same = λ ls small. same_then ls (p ls) f g (h.good ls) (λ a rest x e r. (k a x r (N - length a) (omega (arith, rest_len ls a rest e))).same rest (omega (arith, rest_len ls a rest e))) ∙ ap (λ o. and_then o g) (h.same ls small);
  steady = λ ls c d small. agree_then Part R (ls ++ c) (p (ls ++ c)) (q (ls ++ d)) f g (h.steady ls c d small) (h.good (ls ++ c)) (λ a x r. (k a x r 0 (omega arith)).good) (λ a r x e t. (k a x t (N - length a) (omega arith)).steady r c d (omega (arith, front_len ls c a r e)));
}

last_good : {A B : Type 0} {Part : NumberedLexemes → A → Type 0} {R : NumberedLexemes → B → Type 0} (ls : NumberedLexemes) (o : Parse A) (f : A → B) → Good Part ls o → ((a : NumberedLexemes) (x : A) → Part a x → R a (f x)) → Good R ls (and_then o (λ x. pure (f x)))
last_good ls o f (reads a rest x e r) k = reads a rest (f x) e (k a x r)
last_good ls o f (stuck a rest e c) k = stuck a rest e (λ at. let found = c at in (found.0, f found.1, k (a ++ with_numbers at found.0) found.1 found.2))

last_agree : {A B : Type 0} {c d : NumberedLexemes} (o q : Parse A) (f : A → B) → Agree c d o q → Agree c d (and_then o (λ x. pure (f x))) (and_then q (λ x. pure (f x)))
last_agree o q f (both_ok x l r) = both_ok (f x) l r
last_agree o q f (both_err l r) = both_err l r
last_agree o q f (far_ok x rest w le) = far_ok (f x) rest (and_then q (λ x. pure (f x))) le
last_agree o q f (far_err rest w le) = far_err rest (and_then q (λ x. pure (f x))) le

-- the last of a line, and what the line is read as
pub last : {A B : Type 0} {N : ℕ} {Part : NumberedLexemes → A → Type 0} {R : NumberedLexemes → B → Type 0} {p q : Parser A} (f : A → B) → Lawful N Part p q → ((a : NumberedLexemes) (x : A) → Part a x → R a (f x)) → Lawful N R (p >>= (λ x. pure (f x))) (q >>= (λ x. pure (f x)))
last {A} {B} {N} {Part} {R} {p} {q} f h k = record {
  good = λ ls. last_good ls (p ls) f (h.good ls) k;
  same = λ ls small. ap (λ o. and_then o (λ x. pure (f x))) (h.same ls small);
  steady = λ ls c d small. last_agree (p (ls ++ c)) (q (ls ++ d)) f (h.steady ls c d small);
}

pub nothing : {A : Type 0} {N : ℕ} {R : NumberedLexemes → A → Type 0} {x : A} → R [] x → Lawful N R (pure x) (pure x)
nothing {A} {N} {R} {x} r = record { good = λ ls. reads [] ls x refl r; same = λ ls _. refl; steady = λ ls c d _. took_agree x ls c d }

refused_agree : {A : Type 0} (ls c d : NumberedLexemes) → Agree {A = A} c d (Err (ls ++ c)) (Err (ls ++ d))
refused_agree [] c d = far_err c (Err d) (omega arith)
refused_agree (l ∷ ls) c d = both_err l ls

pub refused : {A : Type 0} {N : ℕ} {R : NumberedLexemes → A → Type 0} → Completes R [] → Lawful N R refuse refuse
refused {A} {N} {R} c = record { good = λ ls. stuck [] ls refl c; same = λ ls _. refl; steady = λ ls b d _. refused_agree ls b d }

widen_good : {A : Type 0} {R S : NumberedLexemes → A → Type 0} (ls : NumberedLexemes) (o : Parse A) → Good R ls o → ((a : NumberedLexemes) (x : A) → R a x → S a x) → Good S ls o
widen_good ls o (reads a rest x e r) k = reads a rest x e (k a x r)
widen_good ls o (stuck a rest e c) k = stuck a rest e (λ at. let found = c at in (found.0, found.1, k (a ++ with_numbers at found.0) found.1 found.2))

pub widen : {A : Type 0} {N : ℕ} {R S : NumberedLexemes → A → Type 0} {p q : Parser A} → Lawful N R p q → ((a : NumberedLexemes) (x : A) → R a x → S a x) → Lawful N S p q
widen {A} {N} {R} {S} {p} {q} h k = record { good = λ ls. widen_good ls (p ls) (h.good ls) k; same = h.same; steady = h.steady }

choose_agree : {A : Type 0} {N : ℕ} {R : NumberedLexemes → A → Type 0} (f g : Option Kind → Parser A) → ((k : Option Kind) → Lawful N R (f k) (g k)) → (ls c d : NumberedLexemes) → length ls < N → Agree c d (choose f (ls ++ c)) (choose g (ls ++ d))
choose_agree f g h [] c d small = far d (choose f c) (choose g d) ((h (next c)).good c)
choose_agree f g h (l ∷ ls) c d small = (h (Some (kind_of l.1))).steady (l ∷ ls) c d small

pub chosen : {A : Type 0} {N : ℕ} {R : NumberedLexemes → A → Type 0} (f g : Option Kind → Parser A) → ((k : Option Kind) → Lawful N R (f k) (g k)) → Lawful N R (choose f) (choose g)
chosen f g h = record { good = λ ls. (h (next ls)).good ls; same = λ ls small. (h (next ls)).same ls small; steady = choose_agree f g h }

by_test : {A : Type 0} {R : NumberedLexemes → A → Type 0} (ls : NumberedLexemes) (b : Bool) (x y : Parse A) → Good R ls x → Good R ls y → Good R ls (cond b x y)
by_test ls true x y g h = g
by_test ls false x y g h = h

same_test : {A : Type 0} (b : Bool) (x y z w : A) → x ≡ z → y ≡ w → cond b x y ≡ cond b z w
same_test true x y z w e f = e
same_test false x y z w e f = f

agree_test : {A : Type 0} {c d : NumberedLexemes} (b : Bool) (x y z w : Parse A) → Agree c d x z → Agree c d y w → Agree c d (cond b x y) (cond b z w)
agree_test true x y z w e f = e
agree_test false x y z w e f = f

test_agree : {A : Type 0} {N : ℕ} {R : NumberedLexemes → A → Type 0} (test : Option Kind → Bool) (p q v w : Parser A) → Lawful N R p q → Lawful N R v w → (ls c d : NumberedLexemes) → length ls < N → Agree c d (when test p v (ls ++ c)) (when test q w (ls ++ d))
test_agree test p q v w h k [] c d small = far d (when test p v c) (when test q w d) (by_test c (test (next c)) (p c) (v c) (h.good c) (k.good c))
test_agree test p q v w h k (l ∷ ls) c d small = agree_test (test (Some (kind_of l.1))) (p (l ∷ (ls ++ c))) (v (l ∷ (ls ++ c))) (q (l ∷ (ls ++ d))) (w (l ∷ (ls ++ d))) (h.steady (l ∷ ls) c d small) (k.steady (l ∷ ls) c d small)

pub tested : {A : Type 0} {N : ℕ} {R : NumberedLexemes → A → Type 0} (test : Option Kind → Bool) (p q v w : Parser A) → Lawful N R p q → Lawful N R v w → Lawful N R (when test p v) (when test q w)
tested test p q v w h k = record {
  good = λ ls. by_test ls (test (next ls)) (p ls) (v ls) (h.good ls) (k.good ls);
  same = λ ls small. same_test (test (next ls)) (p ls) (v ls) (q ls) (w ls) (h.same ls small) (k.same ls small);
  steady = test_agree test p q v w h k;
}

-- ---- recursion

module _ {X A : Type 0} {S : NumberedLexemes → X → Type 0} {R : NumberedLexemes → A → Type 0} (turn : Parser X → Parser A → Parser A) (some : Completes R []) (law : (M : ℕ) (i j : Parser X) (p q : Parser A) → Lawful (suc M) S i j → Lawful M R p q → Lawful (suc M) R (turn i p) (turn j q)) where
  of_of : (N : ℕ) (i j : Parser X) → Lawful N S i j → (n m M : ℕ) → M ≤ n → M ≤ m → M ≤ N → Lawful M R (fix_of (turn i) n) (fix_of (turn j) m)
  of_of N i j h zero m M le ge all = record { good = λ ls. stuck [] ls refl some; same = λ ls small. absurd (omega arith); steady = λ ls c d small. absurd (omega arith) }
  of_of N i j h (suc n) m zero le ge all = record { good = (law 0 i i (fix_of (turn i) n) (fix_of (turn i) n) (self i h.good) (fewer 0 1 (omega arith) (self (fix_of (turn i) n) (of_of N i j h n m 0 (omega arith) (omega arith) (omega arith)).good))).good; same = λ ls small. absurd (omega arith); steady = λ ls c d small. absurd (omega arith) }
  of_of N i j h (suc n) zero (suc M) le ge all = absurd (omega arith)
  of_of N i j h (suc n) (suc m) (suc M) le ge all = law M i j (fix_of (turn i) n) (fix_of (turn j) m) (fewer (suc M) N all h) (of_of N i j h n m M (omega arith) (omega arith) (omega arith))

  pub knot : (N : ℕ) (i j : Parser X) → Lawful N S i j → Lawful N R (fix (turn i)) (fix (turn j))
  unfolding fix
  knot N i j h = record {
    good = λ ls. (of_of N i j h (suc (length ls)) 0 0 (omega arith) (omega arith) (omega arith)).good ls;
    same = λ ls small. (of_of N i j h (suc (length ls)) (suc (length ls)) (suc (length ls)) (omega arith) (omega arith) (omega arith)).same ls (omega arith);
    steady = λ ls c d small. (of_of N i j h (suc (length (ls ++ c))) (suc (length (ls ++ d))) (suc (length ls)) (omega (arith, length-append ls c)) (omega (arith, length-append ls d)) (omega arith)).steady ls c d (omega arith);
  }

  pub knot_is : (i : Parser X) → ((N : ℕ) → Lawful N S i i) → (ls : NumberedLexemes) → fix (turn i) ls ≡ turn i (fix (turn i)) ls
  unfolding fix
  knot_is i i_law ls =
      let N : ℕ = suc (length ls) in
      let whole : Lawful (length ls) R (fix_of (turn i) (length ls)) (fix (turn i)) = record {
        good = (of_of N i i (i_law N) (length ls) 0 0 (omega arith) (omega arith) (omega arith)).good;
        same = λ ms small. (of_of N i i (i_law N) (length ls) (suc (length ms)) (suc (length ms)) (omega arith) (omega arith) (omega arith)).same ms (omega arith);
        steady = λ ms c d small. (of_of N i i (i_law N) (length ls) (suc (length (ms ++ d))) (suc (length ms)) (omega arith) (omega (arith, length-append ms d)) (omega arith)).steady ms c d (omega arith);
      } in
      (law (length ls) i i (fix_of (turn i) (length ls)) (fix (turn i)) (i_law N) whole).same ls (omega arith)
