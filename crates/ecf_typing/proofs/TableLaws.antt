-- Tables as the code keeps them.
use Rattle.std.proofs.Common.{◌≡◌, ℕ, suc, zero, Bool, true, false, cond, List, [], ◌∷◌, ◌++◌, map, take, Option, Some, None, is_some, refl, ap, if◌then◌else◌}
use Rattle.std.specs.Map.{lookup}
use Rattle.ecf_faults.specs.Tables.{Table, declaration_of, with_declaration}

-- looking up a key by what it is seen as
pub lookup_seen : {K L A : Type 0} (see : K → L) (p : L → Bool) (es : List (K × A)) → lookup p (map (λ e. (see e.0, e.1)) es) ≡ lookup (λ k. p (see k)) es
lookup_seen see p [] = refl
lookup_seen see p (e ∷ es) = ap (cond (p (see e.0)) (Some e.1)) (lookup_seen see p es)

pub take_map : {X Y : Type 0} (f : X → Y) (n : ℕ) (xs : List X) → map f (take n xs) ≡ take n (map f xs)
take_map f zero xs = refl
take_map f (suc n) [] = refl
take_map f (suc n) (x ∷ xs) = ap (λ ys. f x ∷ ys) (take_map f n xs)

pub map_push : {X Y : Type 0} (f : X → Y) (xs : List X) (x : X) → map f (xs ++ x ∷ []) ≡ map f xs ++ f x ∷ []
map_push f [] x = refl
map_push f (y ∷ ys) x = ap (λ zs. f y ∷ zs) (map_push f ys x)

pub missing : {A : Type 0} (o : Option A) → is_some o ≡ false → o ≡ None
missing None e = refl
missing (Some x) e = cc

-- a new name goes last
pub declare_new : {A : Type 0} (table : Table A) (name : List ℕ) (a : A) → is_some (declaration_of table name) ≡ false → with_declaration table name a ≡ table ++ (name, a) ∷ []
declare_new table name a e = ap (λ b. if b then table else table ++ (name, a) ∷ []) e

-- one that is there stays
pub declare_old : {A : Type 0} (table : Table A) (name : List ℕ) (a : A) → is_some (declaration_of table name) ≡ true → with_declaration table name a ≡ table
declare_old table name a e = ap (λ b. if b then table else table ++ (name, a) ∷ []) e
