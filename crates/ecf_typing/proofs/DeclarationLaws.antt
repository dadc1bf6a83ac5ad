-- Loops over declarations, each from the front of its list.
use Rattle.std.proofs.Common.{◌≡◌, ℕ, zero, suc, ◌+◌, ◌-◌, ◌<◌, ◌==◌, Bool, true, false, List, [], ◌∷◌, ◌++◌, map, length, take, drop, get_or, Option, Some, None, is_some, if◌then◌else◌, refl, sym, ap, ◌∙◌, arith, append_assoc, length-append}
use Rattle.std.specs.List.{fold, filter_map, flat_map}
use Rattle.std.specs.Option.{option_map}
use Rattle.std.proofs.lemmas.List.{append-nil}
use Rattle.std.proofs.lemmas.List.Elements.{filter_map-append}
use Rattle.std.proofs.lemmas.List.Sums.{fold-append}
use Rattle.std.proofs.lemmas.Bool.Decides.{nat_tests}
use Rattle.ecf_lang.specs.declared.tree.Ty.{Ty}
use Rattle.ecf_lang.specs.declared.tree.Block.{Block}
use Rattle.ecf_lang.specs.declared.tree.Param.{Param}
use Rattle.ecf_lang.specs.declared.tree.Member.{Member}
use Rattle.ecf_lang.specs.declared.tree.Member.TheVariants as tree
use Rattle.ecf_lang.specs.declared.typed.Signature.{Signature}
use Rattle.ecf_faults.specs.declared.What.{What}
use Rattle.ecf_faults.specs.declared.Fault.{Fault}
use Rattle.ecf_faults.specs.Tables.{Table, declaration_of, with_declaration, with_next}
use Rattle.ecf_faults.specs.Expressions.{fault, fault_if}
use Rattle.ecf_faults.specs.Declarations.{Declaration, repeat_faults, excess_faults, method_signature, signature_of}
use Rattle.ecf_faults.specs.Least.{least_with}
use Rattle.ecf_typing.specs.declared.reference.MethodTypes.{MethodTypes}
use Rattle.ecf_typing.specs.Views.{signature_view}
use Rattle.ecf_typing.proofs.LoopLaws.{then_more, take_next, map_push, flat_push}
use Rattle.ecf_typing.proofs.ExpressionLaws.{found_seen, length_map}

-- ---- one element more

pub filter_next : {X D : Type 0} (f : X → Option D) (xs : List X) (i : ℕ) (x : X) → i < length xs → x ≡ get_or xs i x → filter_map f (take (i + 1) xs) ≡ filter_map f (take i xs) ++ filter_map f (x ∷ [])
filter_next f xs i x within at = ap (filter_map f) (take_next xs i x within at) ∙ filter_map-append f (take i xs) (x ∷ [])

pub map_next : {X D : Type 0} (f : X → D) (xs : List X) (i : ℕ) (x : X) → i < length xs → x ≡ get_or xs i x → map f (take (i + 1) xs) ≡ map f (take i xs) ++ f x ∷ []
map_next f xs i x within at = ap (map f) (take_next xs i x within at) ∙ map_push f (take i xs) x

-- ---- tables

table_on : {A : Type 0} (before part : List (List ℕ × A)) (start now new : Table (ℕ × A)) → now ≡ fold with_next start before → new ≡ fold with_next now part → new ≡ fold with_next start (before ++ part)
table_on before part start now new so_far step = step ∙ ap (λ t. fold with_next t part) so_far ∙ sym (fold-append with_next start before part)

pub table_more : {X A : Type 0} (f : X → Option (List ℕ × A)) (xs : List X) (i : ℕ) (x : X) (start now new : Table (ℕ × A)) → now ≡ fold with_next start (filter_map f (take i xs)) → i < length xs → x ≡ get_or xs i x → new ≡ fold with_next now (filter_map f (x ∷ [])) → new ≡ fold with_next start (filter_map f (take (i + 1) xs))
table_more f xs i x start now new so_far within at step = table_on (filter_map f (take i xs)) (filter_map f (x ∷ [])) start now new so_far step ∙ ap (fold with_next start) (sym (filter_next f xs i x within at))

pub table_next : {X A : Type 0} (f : X → List ℕ × A) (xs : List X) (i : ℕ) (x : X) (start now new : Table (ℕ × A)) → now ≡ fold with_next start (map f (take i xs)) → i < length xs → x ≡ get_or xs i x → new ≡ with_next now (f x) → new ≡ fold with_next start (map f (take (i + 1) xs))
table_next f xs i x start now new so_far within at step = table_on (map f (take i xs)) (f x ∷ []) start now new so_far step ∙ ap (fold with_next start) (sym (map_next f xs i x within at))

-- over the members of one object after the other
pub members_more : {X M A : Type 0} (f : M → Option (List ℕ × A)) (g : X → List M) (xs : List X) (i : ℕ) (x : X) (start now new : Table (ℕ × A)) → now ≡ fold with_next start (filter_map f (flat_map g (take i xs))) → i < length xs → x ≡ get_or xs i x → new ≡ fold with_next now (filter_map f (g x)) → new ≡ fold with_next start (filter_map f (flat_map g (take (i + 1) xs)))
members_more f g xs i x start now new so_far within at step =
    table_on (filter_map f (flat_map g (take i xs))) (filter_map f (g x)) start now new so_far step
    ∙ ap (fold with_next start) (sym (ap (λ ys. filter_map f (flat_map g ys)) (take_next xs i x within at) ∙ ap (filter_map f) (flat_push g (take i xs) x) ∙ filter_map-append f (flat_map g (take i xs)) (g x)))

-- a table that shows what is declared otherwise
abbrev seen : {A B : Type 0} → (A → B) → Table A → Table B
seen f t = map (λ e. (e.0, f e.1)) t

kept : {A B : Type 0} (f : A → B) (o : Option A) → is_some (option_map f o) ≡ is_some o
kept f None = refl
kept f (Some x) = refl

by_test : {A B : Type 0} (f : A → B) (t : Table A) (name : List ℕ) (a : A) (b b' : Bool) → b' ≡ b → seen f (if b then t else t ++ (name, a) ∷ []) ≡ (if b' then seen f t else seen f t ++ (name, f a) ∷ [])
by_test f t name a true b' is = ap (λ c. if c then seen f t else seen f t ++ (name, f a) ∷ []) (sym is)
by_test {A} {B} f t name a false b' is =
    let show : List ℕ × A → List ℕ × B = λ e. (e.0, f e.1) in
    map_push show t (name, a) ∙ ap (λ c. if c then seen f t else seen f t ++ (name, f a) ∷ []) (sym is)

seen_declaration : {A B : Type 0} (f : A → B) (t : Table A) (name : List ℕ) (a : A) → seen f (with_declaration t name a) ≡ with_declaration (seen f t) name (f a)
seen_declaration f t name a = by_test f t name a (is_some (declaration_of t name)) (is_some (declaration_of (seen f t) name)) (ap is_some (found_seen f t name) ∙ kept f (declaration_of t name))

pub method_declared : (t new : Table MethodTypes) (name : List ℕ) (types : MethodTypes) → new ≡ with_declaration t name types → types.number ≡ length t → map (λ e. (e.0, signature_view e.1)) new ≡ with_next (map (λ e. (e.0, signature_view e.1)) t) (name, (signature_view types).1)
method_declared t new name types is number =
    let show : List ℕ × MethodTypes → List ℕ × (ℕ × Signature) = λ e. (e.0, signature_view e.1) in
    ap (map show) is ∙ seen_declaration signature_view t name types
    ∙ ap (λ (n : ℕ). with_declaration (map show t) name (n, (signature_view types).1)) (number ∙ sym (length_map show t))

pub method_step : (m : Member) (at : ℕ) (name : List ℕ) (params : List Param) (answer : Ty) (body : Block) (t new : Table MethodTypes) (bytes : List ℕ) (types : MethodTypes) → m ≡ tree.Method at name params answer body → bytes ≡ name → types.params.now ≡ params → types.answer ≡ answer → types.number ≡ length t → new ≡ with_declaration t bytes types → map (λ e. (e.0, signature_view e.1)) new ≡ fold with_next (map (λ e. (e.0, signature_view e.1)) t) (filter_map method_signature (m ∷ []))
method_step m at name params answer body t new bytes types is bytes_are params_are answer_is number step =
    let show : List ℕ × MethodTypes → List ℕ × (ℕ × Signature) = λ e. (e.0, signature_view e.1) in
    method_declared t new bytes types step number
    ∙ ap (λ (n : List ℕ). with_next (map show t) (n, (signature_view types).1)) bytes_are
    ∙ ap (λ (ps : List Param). with_next (map show t) (name, signature_of ps types.answer)) params_are
    ∙ ap (λ (a : Ty). with_next (map show t) (name, signature_of params a)) answer_is
    ∙ sym (ap (λ (x : Member). fold with_next (map show t) (filter_map method_signature (x ∷ []))) is)

-- ---- names that stand twice

repeats_append : (what : What) (t : Table (ℕ × ℕ)) (a b : List Declaration) → repeat_faults what t (a ++ b) ≡ repeat_faults what t a ++ repeat_faults what (fold with_next t a) b
repeats_append what t [] b = refl
repeats_append what t (d ∷ a) b =
    ap (λ fs. fault_if (is_some (declaration_of t d.0)) d.1 what ++ fs) (repeats_append what (with_next t d) a b)
    ∙ sym (append_assoc (fault_if (is_some (declaration_of t d.0)) d.1 what) (repeat_faults what (with_next t d) a) _)

repeats_on : (what : What) (before part : List Declaration) (start now : Table (ℕ × ℕ)) (old first new : Option Fault) → now ≡ fold with_next start before → first ≡ least_with old (repeat_faults what start before) → new ≡ least_with first (repeat_faults what now part) → new ≡ least_with old (repeat_faults what start (before ++ part))
repeats_on what before part start now old first new table so_far step =
    then_more old first new (repeat_faults what start before) (repeat_faults what (fold with_next start before) part) so_far (step ∙ ap (λ t. least_with first (repeat_faults what t part)) table)
    ∙ ap (least_with old) (sym (repeats_append what start before part))

pub repeats_more : {X : Type 0} (what : What) (f : X → Option Declaration) (xs : List X) (i : ℕ) (x : X) (start now : Table (ℕ × ℕ)) (old first new : Option Fault) → now ≡ fold with_next start (filter_map f (take i xs)) → first ≡ least_with old (repeat_faults what start (filter_map f (take i xs))) → i < length xs → x ≡ get_or xs i x → new ≡ least_with first (repeat_faults what now (filter_map f (x ∷ []))) → new ≡ least_with old (repeat_faults what start (filter_map f (take (i + 1) xs)))
repeats_more what f xs i x start now old first new table so_far within at step =
    repeats_on what (filter_map f (take i xs)) (filter_map f (x ∷ [])) start now old first new table so_far step ∙ ap (λ ds. least_with old (repeat_faults what start ds)) (sym (filter_next f xs i x within at))

pub repeats_next : {X : Type 0} (what : What) (f : X → Declaration) (xs : List X) (i : ℕ) (x : X) (start now : Table (ℕ × ℕ)) (old first new : Option Fault) → now ≡ fold with_next start (map f (take i xs)) → first ≡ least_with old (repeat_faults what start (map f (take i xs))) → i < length xs → x ≡ get_or xs i x → new ≡ least_with first (fault_if (is_some (declaration_of now (f x).0)) (f x).1 what) → new ≡ least_with old (repeat_faults what start (map f (take (i + 1) xs)))
repeats_next what f xs i x start now old first new table so_far within at step =
    let own : List Fault = fault_if (is_some (declaration_of now (f x).0)) (f x).1 what in
    let one : own ≡ own ++ [] = sym (append-nil own) in
    repeats_on what (map f (take i xs)) (f x ∷ []) start now old first new table so_far (step ∙ ap (least_with first) one)
    ∙ ap (λ ds. least_with old (repeat_faults what start ds)) (sym (map_next f xs i x within at))

-- ---- declarations past a limit

map_append : {X Y : Type 0} (f : X → Y) (xs ys : List X) → map f (xs ++ ys) ≡ map f xs ++ map f ys
map_append f [] ys = refl
map_append f (x ∷ xs) ys = ap (λ zs. f x ∷ zs) (map_append f xs ys)

drop_append : {X : Type 0} (n : ℕ) (xs ys : List X) → drop n (xs ++ ys) ≡ drop n xs ++ drop (n - length xs) ys
drop_append zero xs ys = let none : 0 ≡ 0 - length xs = omega arith in ap (λ k. xs ++ drop k ys) none
drop_append (suc n) [] ys = let same : suc n ≡ suc n - 0 = omega arith in ap (λ k. drop k ys) same
drop_append (suc n) (x ∷ xs) ys = let same : n - length xs ≡ suc n - suc (length xs) = omega arith in drop_append n xs ys ∙ ap (λ k. drop n xs ++ drop k ys) same

excess_append : (what : What) (limit : ℕ) (a b : List Declaration) → excess_faults what limit (a ++ b) ≡ excess_faults what limit a ++ excess_faults what (limit - length a) b
excess_append what limit a b = ap (map (λ one. fault one.1 what)) (drop_append limit a b) ∙ map_append (λ one. fault one.1 what) (drop limit a) (drop (limit - length a) b)

excess_on : (what : What) (limit room : ℕ) (before part : List Declaration) (old first new : Option Fault) → room ≡ limit - length before → first ≡ least_with old (excess_faults what limit before) → new ≡ least_with first (excess_faults what room part) → new ≡ least_with old (excess_faults what limit (before ++ part))
excess_on what limit room before part old first new left so_far step =
    then_more old first new (excess_faults what limit before) (excess_faults what (limit - length before) part) so_far (step ∙ ap (λ k. least_with first (excess_faults what k part)) left)
    ∙ ap (least_with old) (sym (excess_append what limit before part))

room_on : (limit room room' : ℕ) (before part : List Declaration) → room ≡ limit - length before → room' ≡ room - length part → room' ≡ limit - length (before ++ part)
room_on limit room room' before part left step = omega (arith, length-append before part)

none_left : (n : ℕ) → drop n (let none : List Declaration = [] in none) ≡ []
none_left zero = refl
none_left (suc n) = refl

positive : (n : ℕ) → (suc n == 0) ≡ false
positive n = grind (arith, nat_tests)

pub one_excess : (what : What) (room : ℕ) (d : Declaration) → fault_if (room == 0) d.1 what ≡ excess_faults what room (d ∷ [])
one_excess what zero d = refl
one_excess what (suc n) d = ap (λ b. fault_if b d.1 what) (positive n) ∙ ap (map (λ one. fault one.1 what)) (sym (none_left n))

pub room_more : {X : Type 0} (f : X → Option Declaration) (xs : List X) (i : ℕ) (x : X) (limit room room' : ℕ) → room ≡ limit - length (filter_map f (take i xs)) → i < length xs → x ≡ get_or xs i x → room' ≡ room - length (filter_map f (x ∷ [])) → room' ≡ limit - length (filter_map f (take (i + 1) xs))
room_more f xs i x limit room room' left within at step = room_on limit room room' (filter_map f (take i xs)) (filter_map f (x ∷ [])) left step ∙ ap (λ ds. limit - length ds) (sym (filter_next f xs i x within at))

pub room_next : {X : Type 0} (f : X → Declaration) (xs : List X) (i : ℕ) (x : X) (limit room room' : ℕ) → room ≡ limit - length (map f (take i xs)) → i < length xs → x ≡ get_or xs i x → room' ≡ room - 1 → room' ≡ limit - length (map f (take (i + 1) xs))
room_next f xs i x limit room room' left within at step = room_on limit room room' (map f (take i xs)) (f x ∷ []) left step ∙ ap (λ ds. limit - length ds) (sym (map_next f xs i x within at))

pub excess_more : {X : Type 0} (what : What) (f : X → Option Declaration) (xs : List X) (i : ℕ) (x : X) (limit room : ℕ) (old first new : Option Fault) → room ≡ limit - length (filter_map f (take i xs)) → first ≡ least_with old (excess_faults what limit (filter_map f (take i xs))) → i < length xs → x ≡ get_or xs i x → new ≡ least_with first (excess_faults what room (filter_map f (x ∷ []))) → new ≡ least_with old (excess_faults what limit (filter_map f (take (i + 1) xs)))
excess_more what f xs i x limit room old first new left so_far within at step =
    excess_on what limit room (filter_map f (take i xs)) (filter_map f (x ∷ [])) old first new left so_far step ∙ ap (λ ds. least_with old (excess_faults what limit ds)) (sym (filter_next f xs i x within at))

pub excess_next : {X : Type 0} (what : What) (f : X → Declaration) (xs : List X) (i : ℕ) (x : X) (limit room : ℕ) (old first new : Option Fault) → room ≡ limit - length (map f (take i xs)) → first ≡ least_with old (excess_faults what limit (map f (take i xs))) → i < length xs → x ≡ get_or xs i x → new ≡ least_with first (fault_if (room == 0) (f x).1 what) → new ≡ least_with old (excess_faults what limit (map f (take (i + 1) xs)))
excess_next what f xs i x limit room old first new left so_far within at step =
    excess_on what limit room (map f (take i xs)) (f x ∷ []) old first new left so_far (step ∙ ap (least_with first) (one_excess what room (f x)))
    ∙ ap (λ ds. least_with old (excess_faults what limit ds)) (sym (map_next f xs i x within at))
