-- What was written of the parts of an expression or a call is the whole of it.
use Rattle.std.proofs.Common.{◌≡◌, ℕ, zero, suc, ◌-◌, ◌<◌, ◌≤◌, List, [], ◌∷◌, ◌++◌, map, length, get_or, take, drop, Result, Ok, Err, is_ok, if◌then◌else◌, refl, ap, sym, ◌∙◌, append_assoc, arith}
use Rattle.std.specs.Prelude.{OnOk}
use Rattle.std.specs.List.{flat_map}
use Rattle.std.proofs.lemmas.List.{take_all, append-nil}
use Rattle.std.proofs.lemmas.List.Folds.{flat_map-map}
use Rattle.ecf_grammar.specs.declared.tokens.Word.TheVariants as word
use Rattle.ecf_grammar.specs.declared.tokens.Sign.{Sign}
use Rattle.ecf_grammar.specs.declared.tokens.Sign.TheVariants as sign
use Rattle.ecf_lang.specs.declared.tree.Op.{Op}
use Rattle.ecf_lang.specs.declared.tree.Expr.{Expr}
use Rattle.ecf_lang.specs.declared.tree.Expr.TheVariants as expr
use Rattle.ecf_lang.specs.declared.tree.CallExpr.{CallExpr}
use Rattle.ecf_lang.specs.declared.tree.CallExpr.TheVariants as call
use Rattle.ecf_show.specs.declared.levels.TheConstants.{SUM, PRODUCT, NOT, ATOM, TARGET}
use Rattle.ecf_show.specs.Marks.Mark.{Space}
use Rattle.ecf_show.specs.Marks.{Marks, Wrote, text_of, name_mark, word_mark, sign_mark, spaced, joined, enclosed, in_brackets}
use Rattle.ecf_show.specs.Expressions.{Shown, ShownCall, shown, shown_call, expr_marks, call_marks, op_sign, part, chain_marks, further_part, invoked}
use Rattle.ecf_show.specs.Forms.{shown_at, shown_not, shown_product, shown_sum, shown_compare, shown_external, shown_internal}
use Rattle.ecf_show.proofs.TextLaws.{wrote_then, one_more, flat_push}

-- the marks that were written, under another name
pub wrote_as : (before after : List ℕ) (a b : Marks) → a ≡ b → Wrote before after a → Wrote before after b
wrote_as before after a b same written = written ∙ ap (λ marks. before ++ text_of marks) same

pub wrote_three : (t0 t1 t2 t3 : List ℕ) (a b c : Marks) → Wrote t0 t1 a → Wrote t1 t2 b → Wrote t2 t3 c → Wrote t0 t3 (a ++ (b ++ c))
wrote_three t0 t1 t2 t3 a b c first second third = wrote_then t0 t1 t3 a (b ++ c) first (wrote_then t1 t2 t3 b c second third)

pub enclosed_written : (opening closing : Sign) (marks : Marks) (t0 t1 t2 t3 : List ℕ) → Wrote t0 t1 (sign_mark opening ∷ []) → Wrote t1 t2 marks → Wrote t2 t3 (sign_mark closing ∷ []) → Wrote t0 t3 (enclosed opening marks closing)
enclosed_written opening closing marks t0 t1 t2 t3 = wrote_three t0 t1 t2 t3 (sign_mark opening ∷ []) marks (sign_mark closing ∷ [])

-- what follows from what a call answered
pub on_ok_then : {A E : Type 0} (r : Result A E) (P Q : Type 0) → OnOk r P → (P → Q) → OnOk r Q
on_ok_then (Ok a) P Q is goes_on = goes_on is
on_ok_then (Err e) P Q is goes_on = is

-- what a call wrote that leaves a text as it was where it failed
pub extended : {A E : Type 0} (r : Result A E) (t0 t1 : List ℕ) (marks : Marks) → t1 ≡ (if is_ok r then t0 ++ text_of marks else t0) → OnOk r (Wrote t0 t1 marks)
extended (Ok a) t0 t1 marks is = is
extended (Err e) t0 t1 marks is = tt

-- ---- expressions

marks_as : (e : Expr) (s : Shown) → shown e ≡ s → s.marks ≡ expr_marks e
marks_as e s is = ap (λ (x : Shown). x.marks) (sym is)

-- an expression of one piece
pub form_written : {A E : Type 0} (r : Result A E) (e : Expr) (s : Shown) (t0 t1 : List ℕ) → shown e ≡ s → OnOk r (Wrote t0 t1 s.marks) → OnOk r (Wrote t0 t1 (expr_marks e))
form_written r e s t0 t1 is written = on_ok_then r _ _ written (wrote_as t0 t1 s.marks (expr_marks e) (marks_as e s is))

pub at_written : (e : Expr) (at : ℕ) (name : List ℕ) (key : Expr) (t0 t1 t2 t3 t4 : List ℕ) → e ≡ expr.At at name key → Wrote t0 t1 (name_mark name ∷ []) → Wrote t1 t2 (sign_mark sign.OpenBracket ∷ []) → Wrote t2 t3 (expr_marks key) → Wrote t3 t4 (sign_mark sign.CloseBracket ∷ []) → Wrote t0 t4 (expr_marks e)
at_written e at name key t0 t1 t2 t3 t4 is named opened inner closed =
    wrote_as t0 t4 _ (expr_marks e) (marks_as e _ (ap shown is ∙ shown_at at name key))
    (wrote_then t0 t1 t4 (name_mark name ∷ []) (in_brackets (expr_marks key)) named (enclosed_written sign.OpenBracket sign.CloseBracket (expr_marks key) t1 t2 t3 t4 opened inner closed))

pub not_written : {A E : Type 0} (r : Result A E) (e : Expr) (at : ℕ) (inner : Expr) (t0 t1 t2 : List ℕ) → e ≡ expr.Not at inner → Wrote t0 t1 (sign_mark sign.Not ∷ []) → OnOk r (Wrote t1 t2 (part ATOM (shown inner))) → OnOk r (Wrote t0 t2 (expr_marks e))
not_written r e at inner t0 t1 t2 is negated written =
    on_ok_then r (Wrote t1 t2 (part ATOM (shown inner))) (Wrote t0 t2 (expr_marks e)) written
    (λ part_written. wrote_as t0 t2 _ (expr_marks e) (marks_as e _ (ap shown is ∙ shown_not at inner))
    (wrote_then t0 t1 t2 (sign_mark sign.Not ∷ []) (part ATOM (shown inner)) negated part_written))

pub compare_written : {A E : Type 0} (r : Result A E) (e left : Expr) (op : Op) (right : Expr) (t0 t1 t2 t3 : List ℕ) → e ≡ expr.Compare left op right → Wrote t0 t1 (part SUM (shown left)) → Wrote t1 t2 (spaced (op_sign op)) → OnOk r (Wrote t2 t3 (part SUM (shown right))) → OnOk r (Wrote t0 t3 (expr_marks e))
compare_written r e left op right t0 t1 t2 t3 is first between last =
    on_ok_then r (Wrote t2 t3 (part SUM (shown right))) (Wrote t0 t3 (expr_marks e)) last
    (λ last_written. wrote_as t0 t3 _ (expr_marks e) (marks_as e _ (ap shown is ∙ shown_compare left op right))
    (wrote_then t0 t2 t3 (part SUM (shown left) ++ spaced (op_sign op)) (part SUM (shown right)) (wrote_then t0 t1 t2 (part SUM (shown left)) (spaced (op_sign op)) first between) last_written))

-- the parts of a sum or product: the first, and the others each behind its operator
chain_written : {A E : Type 0} (r : Result A E) (required : ℕ) (e first : Expr) (rest : List (Op × Expr)) (t0 t1 t2 : List ℕ) → chain_marks required (shown first) (map (λ (p : Op × Expr). (p.0, shown p.1)) rest) ≡ expr_marks e
    → Wrote t0 t1 (part required (shown first)) → OnOk r (Wrote t1 t2 (flat_map (further_part required) (map (λ (p : Op × Expr). (p.0, shown p.1)) rest))) → OnOk r (Wrote t0 t2 (expr_marks e))
chain_written r required e first rest t0 t1 t2 is one more =
    on_ok_then r (Wrote t1 t2 (flat_map (further_part required) (map (λ (p : Op × Expr). (p.0, shown p.1)) rest))) (Wrote t0 t2 (expr_marks e)) more
    (λ more_written. wrote_as t0 t2 _ (expr_marks e) is (wrote_then t0 t1 t2 (part required (shown first)) _ one more_written))

pub product_written : {A E : Type 0} (r : Result A E) (e first : Expr) (rest : List (Op × Expr)) (t0 t1 t2 : List ℕ) → e ≡ expr.Product first rest
    → Wrote t0 t1 (part NOT (shown first)) → OnOk r (Wrote t1 t2 (flat_map (further_part NOT) (map (λ (p : Op × Expr). (p.0, shown p.1)) rest))) → OnOk r (Wrote t0 t2 (expr_marks e))
product_written r e first rest t0 t1 t2 is = chain_written r NOT e first rest t0 t1 t2 (marks_as e _ (ap shown is ∙ shown_product first rest))

pub sum_written : {A E : Type 0} (r : Result A E) (e first : Expr) (rest : List (Op × Expr)) (t0 t1 t2 : List ℕ) → e ≡ expr.Sum first rest
    → Wrote t0 t1 (part PRODUCT (shown first)) → OnOk r (Wrote t1 t2 (flat_map (further_part PRODUCT) (map (λ (p : Op × Expr). (p.0, shown p.1)) rest))) → OnOk r (Wrote t0 t2 (expr_marks e))
sum_written r e first rest t0 t1 t2 is = chain_written r PRODUCT e first rest t0 t1 t2 (marks_as e _ (ap shown is ∙ shown_sum first rest))

-- ---- lists of parts

-- the further parts of a sum or product
pub further_written : (required : ℕ) (rest : List (Op × Expr)) (t0 t1 : List ℕ) → Wrote t0 t1 (flat_map (λ (p : Op × Expr). further_part required (p.0, shown p.1)) rest) → Wrote t0 t1 (flat_map (further_part required) (map (λ (p : Op × Expr). (p.0, shown p.1)) rest))
further_written required rest t0 t1 = wrote_as t0 t1 _ _ (sym (flat_map-map (further_part required) (λ (p : Op × Expr). (p.0, shown p.1)) rest))

further_parts : {X : Type 0} (between : Marks) (f : X → Marks) (rest : List X) → flat_map (λ marks. between ++ marks) (map f rest) ≡ flat_map (λ x. between ++ f x) rest
further_parts between f rest = flat_map-map (λ marks. between ++ marks) f rest

-- items with marks between them: the first, and the others each behind those
pub joined_written : {X : Type 0} (between : Marks) (f : X → Marks) (first : X) (rest : List X) (t0 t1 t2 : List ℕ) → Wrote t0 t1 (f first) → Wrote t1 t2 (flat_map (λ x. between ++ f x) rest) → Wrote t0 t2 (joined between (map f (first ∷ rest)))
joined_written between f first rest t0 t1 t2 one more =
    wrote_then t0 t1 t2 (f first) _ one (wrote_as t1 t2 _ _ (sym (further_parts between f rest)) more)

-- the slice behind the first item
rest_of : {X : Type 0} (xs : List X) → take (suc (length xs) - 1) xs ≡ xs
rest_of xs = take_all (suc (length xs) - 1) xs (omega arith)

-- a list of items of which the first was written, and in a loop the others
pub list_written : {X : Type 0} (between : Marks) (f : X → Marks) (xs : List X) (first : X) (i : ℕ) (t0 t1 t2 : List ℕ) → 1 ≤ length xs → first ≡ get_or xs 0 first → Wrote t0 t1 (f first)
    → Wrote t1 t2 (flat_map (λ x. between ++ f x) (take i (take (length xs - 1) (drop 1 xs)))) → length (take (length xs - 1) (drop 1 xs)) ≤ i → Wrote t0 t2 (joined between (map f xs))
list_written between f [] first i t0 t1 t2 some is one more ended = absurd (omega (arith, some))
list_written between f (x ∷ xs) first i t0 t1 t2 some is one more ended =
    let all : Wrote t1 t2 (flat_map (λ y. between ++ f y) xs) = wrote_as t1 t2 _ _ (ap (flat_map (λ y. between ++ f y)) (take_all i (take (suc (length xs) - 1) xs) ended ∙ rest_of xs)) more in
    joined_written between f x xs t0 t1 t2 (wrote_as t0 t1 _ _ (ap f is) one) all

pub map_twice : {X Y Z : Type 0} (f : Y → Z) (g : X → Y) (xs : List X) → map f (map g xs) ≡ map (λ x. f (g x)) xs
map_twice f g [] = refl
map_twice f g (x ∷ xs) = ap (λ zs. f (g x) ∷ zs) (map_twice f g xs)

-- the same where the marks of an item are taken in two steps
pub steps_written : {X Y : Type 0} (between : Marks) (f : Y → Marks) (g : X → Y) (xs : List X) (first : X) (i : ℕ) (t0 t1 t2 : List ℕ) → 1 ≤ length xs → first ≡ get_or xs 0 first → Wrote t0 t1 (f (g first))
    → Wrote t1 t2 (flat_map (λ x. between ++ f (g x)) (take i (take (length xs - 1) (drop 1 xs)))) → length (take (length xs - 1) (drop 1 xs)) ≤ i → Wrote t0 t2 (joined between (map f (map g xs)))
steps_written between f g xs first i t0 t1 t2 some is one more ended =
    wrote_as t0 t2 _ _ (ap (joined between) (sym (map_twice f g xs))) (list_written between (λ x. f (g x)) xs first i t0 t1 t2 some is one more ended)

-- what stands before an item that has so many others in front of it
abbrev pub lead : Marks → ℕ → Marks
lead between zero = []
lead between (suc n) = between

-- one more item of a list with marks between its items
pub joined_more : {X : Type 0} (between : Marks) (f : X → Marks) (xs : List X) (i : ℕ) (x : X) → i < length xs → x ≡ get_or xs i x → joined between (map f (take (suc i) xs)) ≡ joined between (map f (take i xs)) ++ (lead between i ++ f x)
joined_more between f [] i x inside is = absurd (omega (arith, inside))
joined_more between f (y ∷ ys) zero x inside is = append-nil (f y) ∙ ap f (sym is)
joined_more between f (y ∷ ys) (suc i) x inside is =
    ap (λ marks. f y ++ marks) (further_parts between f (take (suc i) ys) ∙ ap (flat_map (λ z. between ++ f z)) (one_more ys i x (omega (arith, inside)) is)
    ∙ flat_push (λ z. between ++ f z) (take i ys) x ∙ ap (λ marks. marks ++ (between ++ f x)) (sym (further_parts between f (take i ys))))
    ∙ sym (append_assoc (f y) (flat_map (λ marks. between ++ marks) (map f (take i ys))) (between ++ f x))

-- ---- calls

tried_as : (c : CallExpr) (s : ShownCall) → shown_call c ≡ s → s.tried ≡ (shown_call c).tried
tried_as c s is = ap (λ (x : ShownCall). x.tried) (sym is)

pub external_written : {A E : Type 0} (r : Result A E) (c : CallExpr) (at : ℕ) (target : Expr) (name_at : ℕ) (name : List ℕ) (args : List Expr) (t0 t1 t2 t3 : List ℕ) → c ≡ call.External at target name_at name args → Wrote t0 t1 (part TARGET (shown target)) → Wrote t1 t2 (sign_mark sign.Dot ∷ []) → OnOk r (Wrote t2 t3 (invoked name (map shown args))) → OnOk r (Wrote t0 t3 (shown_call c).tried)
external_written r c at target name_at name args t0 t1 t2 t3 is before dot after =
    on_ok_then r (Wrote t2 t3 (invoked name (map shown args))) (Wrote t0 t3 (shown_call c).tried) after
    (λ written. wrote_as t0 t3 _ _ (tried_as c _ (ap shown_call is ∙ shown_external at target name_at name args))
    (wrote_three t0 t1 t2 t3 (part TARGET (shown target)) (sign_mark sign.Dot ∷ []) (invoked name (map shown args)) before dot written))

pub internal_written : {A E : Type 0} (r : Result A E) (c : CallExpr) (at name_at : ℕ) (name : List ℕ) (args : List Expr) (t0 t1 t2 : List ℕ) → c ≡ call.Internal at name_at name args → Wrote t0 t1 (word_mark word.SelfWord ∷ sign_mark sign.Dot ∷ []) → OnOk r (Wrote t1 t2 (invoked name (map shown args))) → OnOk r (Wrote t0 t2 (shown_call c).tried)
internal_written r c at name_at name args t0 t1 t2 is before after =
    on_ok_then r (Wrote t1 t2 (invoked name (map shown args))) (Wrote t0 t2 (shown_call c).tried) after
    (λ written. wrote_as t0 t2 _ _ (tried_as c _ (ap shown_call is ∙ shown_internal at name_at name args))
    (wrote_then t0 t1 t2 (word_mark word.SelfWord ∷ sign_mark sign.Dot ∷ []) (invoked name (map shown args)) before written))

pub call_external : {A E : Type 0} (r : Result A E) (c : CallExpr) (at : ℕ) (target : Expr) (name_at : ℕ) (name : List ℕ) (args : List Expr) (t0 t1 t2 : List ℕ) → c ≡ call.External at target name_at name args → Wrote t0 t1 (word_mark word.Call ∷ Space ∷ []) → OnOk r (Wrote t1 t2 (shown_call c).tried) → OnOk r (Wrote t0 t2 (call_marks c))
call_external r c at target name_at name args t0 t1 t2 is named tried =
    let form = ap shown_call is ∙ shown_external at target name_at name args in
    on_ok_then r (Wrote t1 t2 (shown_call c).tried) (Wrote t0 t2 (call_marks c)) tried
    (λ written. wrote_as t0 t2 _ _ (ap (λ marks. word_mark word.Call ∷ Space ∷ marks) (sym (tried_as c _ form)) ∙ ap (λ (x : ShownCall). x.marks) (sym form))
    (wrote_then t0 t1 t2 (word_mark word.Call ∷ Space ∷ []) (shown_call c).tried named written))

pub call_internal : {A E : Type 0} (r : Result A E) (c : CallExpr) (at name_at : ℕ) (name : List ℕ) (args : List Expr) (t0 t1 : List ℕ) → c ≡ call.Internal at name_at name args → OnOk r (Wrote t0 t1 (shown_call c).tried) → OnOk r (Wrote t0 t1 (call_marks c))
call_internal r c at name_at name args t0 t1 is tried =
    let form = ap shown_call is ∙ shown_internal at name_at name args in
    on_ok_then r (Wrote t0 t1 (shown_call c).tried) (Wrote t0 t1 (call_marks c)) tried
    (wrote_as t0 t1 (shown_call c).tried (call_marks c) (sym (tried_as c _ form) ∙ ap (λ (x : ShownCall). x.marks) (sym form)))
