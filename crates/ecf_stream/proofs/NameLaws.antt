-- A table of names, one name later.
use Rattle.std.proofs.Common.{◌≡◌, ℕ, zero, suc, ◌+◌, ◌≤◌, ◌<◌, Bool, true, false, cond, List, [], ◌∷◌, ◌++◌, map, Option, Some, None, length, take, get_or, refl, sym, ap, ◌∙◌, arith, if◌then◌else◌, ltb, nat_eq, length-append}
use Rattle.std.specs.Prelude.{position, is_some}
use Rattle.std.specs.List.{position_or_len}
use Rattle.std.specs.Map.{lookup}
use Rattle.std.specs.Option.{option_or}
use Rattle.std.specs.Str.{bytes_eq}
use Rattle.std.proofs.lemmas.List.Folds.{position_or_len_push}
use Rattle.std.proofs.lemmas.List.Sums.{prefix_len-le-length}
use Rattle.ecf_stream.specs.declared.lookup.NameTable.{NameTable}
use Rattle.ecf_stream.specs.Lookup.{FindsNames, AddsName}

-- the number of a name that may be new
abbrev pub or_new : Option ℕ → Bool → ℕ → Option ℕ
or_new old is_it number = option_or old (if is_it then Some number else None)

pub missing : {A : Type 0} (o : Option A) → is_some o ≡ false → o ≡ None
missing None e = refl
missing (Some x) e = cc

pub lookup_push : {K : Type 0} (test : K → Bool) (es : List (K × ℕ)) (k : K) (n : ℕ) → lookup test (es ++ (k, n) ∷ []) ≡ or_new (lookup test es) (test k) n
lookup_push test [] k n = refl
lookup_push test (e ∷ es) k n =
    elim (test e.0) as (λ b. cond b (Some e.1) (lookup test (es ++ (k, n) ∷ [])) ≡ or_new (cond b (Some e.1) (lookup test es)) (test k) n)
    [ true ↦ refl | false ↦ lookup_push test es k n ]

-- a place within a length
abbrev place : ℕ → ℕ → Option ℕ
place n len = cond (ltb n len) (Some n) None

place_push : (n len : ℕ) (b : Bool) → n ≤ len → place (cond (nat_eq n len) (len + cond b 0 1) n) (len + 1) ≡ or_new (place n len) b len
place_push n len true h = grind arith
place_push n len false h = grind arith

pub position_push : {X : Type 0} (p : X → Bool) (xs : List X) (y : X) → position p (xs ++ y ∷ []) ≡ or_new (position p xs) (p y) (length xs)
position_push p xs y =
    ap (λ n. place n (length (xs ++ y ∷ []))) (position_or_len_push p xs y)
    ∙ ap (λ len. place (cond (nat_eq (position_or_len p xs) (length xs)) (length xs + cond (p y) 0 1) (position_or_len p xs)) len) (length-append xs (y ∷ []))
    ∙ place_push (position_or_len p xs) (length xs) (p y) (prefix_len-le-length _ xs)

pub length_taken : {X : Type 0} (xs : List X) (i : ℕ) → i ≤ length xs → length (take i xs) ≡ i
length_taken [] zero h = refl
length_taken [] (suc i) h = absurd (omega (arith, h))
length_taken (x ∷ xs) zero h = refl
length_taken (x ∷ xs) (suc i) h = omega (arith, length_taken xs i (omega (arith, h)))

pub length_mapped : {X Y : Type 0} (v : X → Y) (xs : List X) → length (map v xs) ≡ length xs
length_mapped v [] = refl
length_mapped v (x ∷ xs) = omega (arith, length_mapped v xs)

pub map_push : {X Y : Type 0} (v : X → Y) (xs : List X) (x : X) → map v (xs ++ x ∷ []) ≡ map v xs ++ v x ∷ []
map_push v [] x = refl
map_push v (y ∷ ys) x = ap (λ zs. v y ∷ zs) (map_push v ys x)

pub one_more : {X : Type 0} (xs : List X) (i : ℕ) (x : X) → i < length xs → x ≡ get_or xs i x → take (suc i) xs ≡ take i xs ++ x ∷ []
one_more [] i x h e = absurd (omega (arith, h))
one_more (y ∷ ys) zero x h e = ap (λ z. z ∷ []) (sym e)
one_more (y ∷ ys) (suc i) x h e = ap (λ zs. y ∷ zs) (one_more ys i x (omega (arith, h)) e)

pub finds_more : (before : List (List ℕ)) (i : ℕ) (name : List ℕ) (old new : NameTable) → length before ≡ i → FindsNames before old → AddsName old new name i → FindsNames (before ++ name ∷ []) new
finds_more before i name old new len finds adds = λ word.
    adds word ∙ ap (λ o. or_new o (bytes_eq word name) i) (finds word)
    ∙ ap (λ n. or_new (position (bytes_eq word) before) (bytes_eq word name) n) (sym len)
    ∙ sym (position_push (bytes_eq word) before name)
