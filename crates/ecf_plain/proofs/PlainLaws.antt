-- What plain forms have in them.
use Rattle.std.proofs.Common.{◌≡◌, ℕ, zero, suc, ◌+◌, ◌-◌, ◌<◌, ◌≤◌, Bool, true, false, List, [], ◌∷◌, length, get_or, map, take, drop, refl, ap, sym, subst, ◌∙◌, arith}
use Rattle.std.specs.Prelude.{◌&&◌}
use Rattle.std.proofs.Math.ListN.{drop_of_length-le}
use Rattle.std.proofs.lemmas.List.{drop_more, take_all, length-drop}
use Rattle.ecf_lang.specs.declared.tree.Op.{Op}
use Rattle.ecf_lang.specs.declared.typed.TypedExpr.{TypedExpr}
use Rattle.ecf_lang.specs.declared.typed.TypedBlock.{TypedBlock}
use Rattle.ecf_plain.specs.Plain.{every, every_part, is_plain, are_plain, parts_plain, is_plain_block, arms_plain}

-- both hold
pub and_first : (a b : Bool) → a && b ≡ true → a ≡ true
and_first true b h = refl
and_first false b h = h

pub and_second : (a b : Bool) → a && b ≡ true → b ≡ true
and_second true b h = h
and_second false b h = absurd cc

pub and_both : (a b : Bool) → a ≡ true → b ≡ true → a && b ≡ true
and_both true b h k = k
and_both false b h k = h

-- a list that begins so
pub begins_so : {A : Type 0} (xs : List A) (x : A) → 1 ≤ length xs → x ≡ get_or xs 0 x → xs ≡ x ∷ take (length xs - 1) (drop 1 xs)
begins_so [] x some is = absurd (omega arith)
begins_so (y ∷ ys) x some is = ap (λ z. z ∷ ys) (sym is) ∙ ap (λ zs. x ∷ zs) (sym (take_all (length (y ∷ ys) - 1) ys (omega arith)))

-- what is left of a list, from an item on, and at its end
pub left_more : {A : Type 0} (xs : List A) (i : ℕ) (x : A) → i < length xs → x ≡ get_or xs i x → drop i xs ≡ x ∷ drop (i + 1) xs
left_more xs i x within is = drop_more xs i x within ∙ ap (λ z. z ∷ drop (i + 1) xs) (sym is)

pub none_left : {A : Type 0} (xs : List A) (i : ℕ) → length xs ≤ i → drop i xs ≡ []
none_left xs i ended = drop_of_length-le xs ended

-- each of several that are all true
pub every_one : {A : Type 0} (f : A → Bool) (xs : List A) (i : ℕ) (x : A) → every (map f xs) ≡ true → i < length xs → x ≡ get_or xs i x → f x ≡ true
every_one f [] i x all within is = absurd (omega (arith, within))
every_one f (y ∷ ys) zero x all within is = ap f is ∙ and_first (f y) (every (map f ys)) all
every_one f (y ∷ ys) (suc i) x all within is = every_one f ys i x (and_second (f y) (every (map f ys)) all) (omega (arith, within)) is

-- each further part of a plain sum or product
pub plain_part : (parts : List (Op × TypedExpr)) (i : ℕ) (part : Op × TypedExpr) → parts_plain parts ≡ true → i < length parts → part ≡ get_or parts i part → is_plain part.1 ≡ true
plain_part [] i part all within is = absurd (omega (arith, within))
plain_part (one ∷ others) zero part all within is = ap (λ (p : Op × TypedExpr). is_plain p.1) is ∙ and_first (is_plain one.1) (parts_plain others) all
plain_part (one ∷ others) (suc i) part all within is = plain_part others i part (and_second (is_plain one.1) (parts_plain others) all) (omega (arith, within)) is

-- those behind the first
pub plain_others : (xs : List TypedExpr) (x : TypedExpr) → are_plain xs ≡ true → 1 ≤ length xs → x ≡ get_or xs 0 x → are_plain (take (length xs - 1) (drop 1 xs)) ≡ true
plain_others xs x all some is = and_second (is_plain x) (are_plain (take (length xs - 1) (drop 1 xs))) (ap are_plain (sym (begins_so xs x some is)) ∙ all)

-- so far all are true, and so is one more
pub so_far_more : {A : Type 0} (f : A → Bool) (xs : List A) (i : ℕ) (x : A) → every (map f xs) ≡ every (map f (drop i xs)) → i < length xs → x ≡ get_or xs i x → f x ≡ true → every (map f xs) ≡ every (map f (drop (i + 1) xs))
so_far_more f xs i x so_far within is holds =
    so_far ∙ ap (λ ys. every (map f ys)) (left_more xs i x within is) ∙ ap (λ b. b && every (map f (drop (i + 1) xs))) holds

-- all were true
pub all_were : {A : Type 0} (f : A → Bool) (xs : List A) (i : ℕ) → every (map f xs) ≡ every (map f (drop i xs)) → length xs ≤ i → every (map f xs) ≡ true
all_were f xs i so_far ended = so_far ∙ ap (λ ys. every (map f ys)) (none_left xs i ended)

-- the same of further parts
pub parts_more : (xs : List (Op × TypedExpr)) (i : ℕ) (x : Op × TypedExpr) → parts_plain xs ≡ parts_plain (drop i xs) → i < length xs → x ≡ get_or xs i x → is_plain x.1 ≡ true → parts_plain xs ≡ parts_plain (drop (i + 1) xs)
parts_more xs i x so_far within is holds =
    so_far ∙ ap parts_plain (left_more xs i x within is) ∙ ap (λ b. b && parts_plain (drop (i + 1) xs)) holds

pub parts_were : (xs : List (Op × TypedExpr)) (i : ℕ) → parts_plain xs ≡ parts_plain (drop i xs) → length xs ≤ i → parts_plain xs ≡ true
parts_were xs i so_far ended = so_far ∙ ap parts_plain (none_left xs i ended)

-- and of arms
pub arms_more : (xs : List (TypedExpr × TypedBlock)) (i : ℕ) (x : TypedExpr × TypedBlock) → arms_plain xs ≡ arms_plain (drop i xs) → i < length xs → x ≡ get_or xs i x → is_plain x.0 ≡ true → is_plain_block x.1 ≡ true → arms_plain xs ≡ arms_plain (drop (i + 1) xs)
arms_more xs i x so_far within is cond block =
    so_far ∙ ap arms_plain (left_more xs i x within is) ∙ ap (λ b. b && arms_plain (drop (i + 1) xs)) (and_both (is_plain x.0) (is_plain_block x.1) cond block)

pub arms_were : (xs : List (TypedExpr × TypedBlock)) (i : ℕ) → arms_plain xs ≡ arms_plain (drop i xs) → length xs ≤ i → arms_plain xs ≡ true
arms_were xs i so_far ended = so_far ∙ ap arms_plain (none_left xs i ended)

-- each of several plain arms
pub plain_arm : (arms : List (TypedExpr × TypedBlock)) (i : ℕ) (arm : TypedExpr × TypedBlock) → arms_plain arms ≡ true → i < length arms → arm ≡ get_or arms i arm → is_plain arm.0 && is_plain_block arm.1 ≡ true
plain_arm [] i arm all within is = absurd (omega (arith, within))
plain_arm (one ∷ others) zero arm all within is = ap (λ (a : TypedExpr × TypedBlock). is_plain a.0 && is_plain_block a.1) is ∙ and_first (is_plain one.0 && is_plain_block one.1) (arms_plain others) all
plain_arm (one ∷ others) (suc i) arm all within is = plain_arm others i arm (and_second (is_plain one.0 && is_plain_block one.1) (arms_plain others) all) (omega (arith, within)) is
