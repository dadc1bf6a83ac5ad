-- How a text grows by marks: one part behind another, and item by item in a loop.
use Rattle.std.proofs.Common.{◌≡◌, ℕ, zero, suc, ◌+◌, ◌<◌, ◌≤◌, List, [], ◌∷◌, ◌++◌, length, get_or, take, drop, refl, ap, sym, ◌∙◌, append_assoc, add-one, codes, Bool, nat_lt, arith}
use Rattle.std.specs.List.{flat_map}
use Rattle.std.specs.Bool.{if◌then◌else◌}
use Rattle.std.proofs.lemmas.Bool.{lt-ltb, le-ltb}
use Rattle.std.proofs.lemmas.List.{take_all, append-nil}
use Rattle.std.proofs.lemmas.List.Concat.{flat_map-append}
use Rattle.ecf_show.specs.Marks.{Marks, text_of, mark_text, indent, Wrote, in_parentheses}
use Rattle.ecf_show.specs.Expressions.{Shown, part}

-- one more open block indents by two more spaces
indent_end : (n : ℕ) → indent n ++ codes "  " ≡ indent (suc n)
indent_end zero = refl
indent_end (suc n) = ap (λ t. codes "  " ++ t) (indent_end n)

pub indent_more : (before : List ℕ) (n : ℕ) → (before ++ indent n) ++ codes "  " ≡ before ++ indent (n + 1)
indent_more before n = rw (append_assoc, add-one) (ap (λ t. before ++ t) (indent_end n))

pub text_append : (a b : Marks) → text_of (a ++ b) ≡ text_of a ++ text_of b
text_append a b = flat_map-append mark_text a b

pub wrote_then : (before between after : List ℕ) (a b : Marks) → Wrote before between a → Wrote between after b → Wrote before after (a ++ b)
wrote_then before between after a b first second = second ∙ ap (λ t. t ++ text_of b) first ∙ append_assoc before (text_of a) (text_of b) ∙ ap (λ t. before ++ t) (sym (text_append a b))

pub one_more : {X : Type 0} (xs : List X) (i : ℕ) (x : X) → i < length xs → x ≡ get_or xs i x → take (suc i) xs ≡ take i xs ++ x ∷ []
one_more [] i x h e = absurd (omega (arith, h))
one_more (y ∷ ys) zero x h e = ap (λ z. z ∷ []) (sym e)
one_more (y ∷ ys) (suc i) x h e = ap (λ zs. y ∷ zs) (one_more ys i x (omega (arith, h)) e)

pub flat_push : {X : Type 0} (f : X → Marks) (xs : List X) (x : X) → flat_map f (xs ++ x ∷ []) ≡ flat_map f xs ++ f x
flat_push f [] x = append-nil (f x)
flat_push f (y ∷ ys) x = ap (λ zs. f y ++ zs) (flat_push f ys x) ∙ sym (append_assoc (f y) (flat_map f ys) (f x))

-- one more item of a loop that writes the marks of each
pub item_written : {X : Type 0} (f : X → Marks) (xs : List X) (i : ℕ) (x : X) (start before after : List ℕ) → Wrote start before (flat_map f (take i xs)) → i < length xs → x ≡ get_or xs i x → Wrote before after (f x) → Wrote start after (flat_map f (take (i + 1) xs))
item_written f xs i x start before after so_far inside item written =
    wrote_then start before after (flat_map f (take i xs)) (f x) so_far written
    ∙ ap (λ marks. start ++ text_of marks) (sym (ap (λ k. flat_map f (take k xs)) (add-one i) ∙ ap (flat_map f) (one_more xs i x inside item) ∙ flat_push f (take i xs) x))

-- all items of a loop that has ended
pub items_written : {X : Type 0} (f : X → Marks) (xs : List X) (i : ℕ) (start after : List ℕ) → Wrote start after (flat_map f (take i xs)) → length xs ≤ i → Wrote start after (flat_map f xs)
items_written f xs i start after so_far ended = so_far ∙ ap (λ ys. start ++ text_of (flat_map f ys)) (take_all i xs ended)

pub part_enclosed : (required level : ℕ) (e : Shown) → level ≡ e.level → level < required → part required e ≡ in_parentheses e.marks
part_enclosed required level e is low = ap (λ (b : Bool). if b then in_parentheses e.marks else e.marks) (ap (λ l. nat_lt l required) (sym is) ∙ lt-ltb level required low)

pub part_bare : (required level : ℕ) (e : Shown) → level ≡ e.level → required ≤ level → part required e ≡ e.marks
part_bare required level e is high = ap (λ (b : Bool). if b then in_parentheses e.marks else e.marks) (ap (λ l. nat_lt l required) (sym is) ∙ le-ltb level required high)

-- a list that isn't empty is its first item and the others
pub front_and_rest : {X : Type 0} (xs : List X) (first : X) → 0 < length xs → first ≡ get_or xs 0 first → xs ≡ first ∷ drop 1 xs
front_and_rest [] first some is = absurd (omega (arith, some))
front_and_rest (x ∷ xs) first some is = ap (λ y. y ∷ xs) (sym is)
