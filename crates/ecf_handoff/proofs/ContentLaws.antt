-- Places of items, and what a queue holds.
use Rattle.std.proofs.Common.{◌≡◌, ℕ, suc, ◌+◌, ◌<◌, ◌≤◌, List, [], ◌∷◌, ◌++◌, length, drop, get_or, refl, ap, sym, ◌∙◌, subst, arith, append_assoc, length-append}
use Rattle.std.specs.Prelude.{All, Contains, IsPermutation}
use Rattle.std.specs.List.{enumerate_from}
use Rattle.std.proofs.lemmas.List.{append-nil, nil_from_length, same_lists, get_or_default}
use Rattle.std.proofs.lemmas.List.FromFn.{length-enumerate_from, get_or-enumerate_from}
use Rattle.std.proofs.lemmas.List.Elements.{All-nil, All-cons, All-push, Contains-get_or}
use Rattle.std.proofs.lemmas.List.Sorted.{IsPermutation-sym, IsPermutation-trans, IsPermutation-map, IsPermutation-append_left, Contains-permutation, length_permutation}
use Rattle.ecf_handoff.specs.declared.account.Account.{Account}
use Rattle.ecf_handoff.specs.declared.limits.TheConstants.{WHOLE_SHARE}
use Rattle.ecf_handoff.specs.Accounts.{items_of}
use Rattle.ecf_handoff.specs.Content.{with_places, IsContent, HasTaken}
use Rattle.ecf_handoff.specs.Balance.{Knows}
use Rattle.crossbeam_queue.specs.Fifo.{Held}

module _ {T : Type 0} where
  -- one item more has the next place
  pub enumerate-snoc : (n : ℕ) (xs : List T) (x : T) → enumerate_from n (xs ++ x ∷ []) ≡ enumerate_from n xs ++ (n + length xs, x) ∷ []
  enumerate-snoc n [] x = let e : n ≡ n + 0 = omega arith in ap (λ k. (k, x) ∷ []) e
  enumerate-snoc n (y ∷ xs) x = let e : (n + 1) + length xs ≡ n + suc (length xs) = omega arith in
      ap (λ l. (n, y) ∷ l) (enumerate-snoc (n + 1) xs x ∙ ap (λ k. enumerate_from (n + 1) xs ++ (k, x) ∷ []) e)

  -- the places are below the number of items
  pub places_below : (n k : ℕ) (xs : List T) → n + length xs ≤ k → All (λ e. e.0 < k) (enumerate_from n xs)
  places_below n k [] le = All-nil (λ (e : ℕ × T). e.0 < k)
  places_below n k (x ∷ xs) le = All-cons (λ (e : ℕ × T). e.0 < k) (n, x) (enumerate_from (n + 1) xs) (omega arith) (places_below (n + 1) k xs (omega arith))

  -- the items alone
  pub items-enumerate : (n : ℕ) (xs : List T) → items_of (enumerate_from n xs) ≡ xs
  items-enumerate n [] = refl
  items-enumerate n (x ∷ xs) = ap (λ l. x ∷ l) (items-enumerate (n + 1) xs)

  -- items with their places in whatever order are one list
  pub one_order : (xs ys : List T) → IsPermutation (with_places xs) (with_places ys) → xs ≡ ys
  one_order xs ys p =
      let l : length ys ≡ length xs = sym (length-enumerate_from 0 ys) ∙ (length_permutation (with_places xs) (with_places ys) p ∙ length-enumerate_from 0 xs) in
      same_lists xs ys (sym l) (λ k d below.
      let in_x : k < length (with_places xs) = omega (arith, length-enumerate_from 0 xs) in
      let at : get_or (with_places xs) k (0, d) ≡ (0 + k, get_or xs k d) = get_or-enumerate_from 0 xs k (0, d) below in
      let found : Contains (with_places ys) (get_or (with_places xs) k (0, d)) = Contains-permutation (with_places xs) (with_places ys) (get_or (with_places xs) k (0, d)) p (Contains-get_or (with_places xs) k (0, d) in_x) in
      let j : ℕ = found.0 in
      let e : ℕ × T = get_or (with_places xs) k (0, d) in
      let in_y : j < length ys = subst (λ n. j < n) (length-enumerate_from 0 ys) found.1 in
      let there : (0 + j, get_or ys j e.1) ≡ (0 + k, get_or xs k d) = sym (get_or-enumerate_from 0 ys j e in_y) ∙ (found.2 ∙ at) in
      let same : j ≡ k = let q : 0 + j ≡ 0 + k = ap (λ (z : ℕ × T). z.0) there in omega arith in
      sym (ap (λ (z : ℕ × T). z.1) there) ∙ (get_or_default ys j e.1 d in_y ∙ ap (λ i. get_or ys i d) same))

  -- the items that a queue holds are determined by what was handed in and taken
  pub one_content : (a : Account T) (xs ys : List T) → IsContent a xs → IsContent a ys → xs ≡ ys
  one_content a xs ys p q =
      let gone : p.gone ≡ q.gone = one_order p.gone q.gone (IsPermutation-trans (with_places p.gone) a.taken (with_places q.gone) (IsPermutation-sym a.taken (with_places p.gone) p.taken) q.taken) in
      let all : p.gone ++ xs ≡ q.gone ++ ys = one_order (p.gone ++ xs) (q.gone ++ ys) (IsPermutation-trans (with_places (p.gone ++ xs)) a.handed (with_places (q.gone ++ ys)) (IsPermutation-sym a.handed (with_places (p.gone ++ xs)) p.handed) q.handed) in
      append_cancel p.gone xs ys (all ∙ ap (λ l. l ++ ys) (sym gone))
    where
      append_cancel : (gs xs ys : List T) → gs ++ xs ≡ gs ++ ys → xs ≡ ys
      append_cancel [] xs ys e = e
      append_cancel (g ∷ gs) xs ys e = append_cancel gs xs ys (ap (drop 1) e)

  -- each item that was handed in was taken once, or is held
  pub content_once : (a : Account T) (items : List T) → IsContent a items → IsPermutation (items_of a.handed) (items_of a.taken ++ items)
  content_once a items c =
      let h : IsPermutation (items_of a.handed) (c.gone ++ items) = subst (IsPermutation (items_of a.handed)) (items-enumerate 0 (c.gone ++ items)) (IsPermutation-map (λ (e : ℕ × T). e.1) a.handed (with_places (c.gone ++ items)) c.handed) in
      let t : IsPermutation (items_of a.taken) c.gone = subst (IsPermutation (items_of a.taken)) (items-enumerate 0 c.gone) (IsPermutation-map (λ (e : ℕ × T). e.1) a.taken (with_places c.gone) c.taken) in
      IsPermutation-trans (items_of a.handed) (c.gone ++ items) (items_of a.taken ++ items) h (IsPermutation-append_left items c.gone (items_of a.taken) (IsPermutation-sym (items_of a.taken) c.gone t))

  -- two ways to cut one list, the second a place further on
  cut_further : (gs : List T) (x : T) (rest ks ys : List T) → gs ++ x ∷ rest ≡ ks ++ ys → length ks ≡ length gs + 1 → rest ≡ ys
  cut_further [] x rest [] ys e l = absurd (omega arith)
  cut_further [] x rest (k ∷ []) ys e l = ap (drop 1) e
  cut_further [] x rest (k ∷ (k' ∷ ks)) ys e l = absurd (omega arith)
  cut_further (g ∷ gs) x rest [] ys e l = absurd (omega arith)
  cut_further (g ∷ gs) x rest (k ∷ ks) ys e l = cut_further gs x rest ks ys (ap (drop 1) e) (omega arith)

  -- what the pass with the whole share took stood before what the queue holds then
  pub before_take : (a b : Account T) (item : T) (items : List T) → a.share ≡ WHOLE_SHARE → HasTaken a item b → IsContent b items → IsContent a (item ∷ items)
  before_take a b item items whole t c =
      let rest : List T = (t.front whole).0 in
      let f : IsContent a (item ∷ rest) = (t.front whole).1 in
      let handed : b.handed ≡ a.handed = ap (λ (z : Account T). z.handed) t.is in
      let taken : b.taken ≡ a.taken ++ (t.place, item) ∷ [] = ap (λ (z : Account T). z.taken) t.is in
      let now : IsPermutation a.handed (with_places (c.gone ++ items)) = subst (λ l. IsPermutation l (with_places (c.gone ++ items))) handed c.handed in
      let all : f.gone ++ item ∷ rest ≡ c.gone ++ items = one_order (f.gone ++ item ∷ rest) (c.gone ++ items)
      (IsPermutation-trans (with_places (f.gone ++ item ∷ rest)) a.handed (with_places (c.gone ++ items)) (IsPermutation-sym a.handed (with_places (f.gone ++ item ∷ rest)) f.handed) now) in
      let then : length c.gone ≡ length b.taken = sym (length-enumerate_from 0 c.gone) ∙ length_permutation b.taken (with_places c.gone) c.taken in
      let before : length f.gone ≡ length a.taken = sym (length-enumerate_from 0 f.gone) ∙ length_permutation a.taken (with_places f.gone) f.taken in
      let more : length b.taken ≡ length a.taken + 1 = ap length taken ∙ length-append a.taken ((t.place, item) ∷ []) in
      subst (λ l. IsContent a (item ∷ l)) (cut_further f.gone item rest c.gone items all (omega arith)) f

  -- one item more in a list
  pub all_fit : (fits : T → Type 0) (left after : List T) (item : T) → after ≡ left ++ item ∷ [] → All fits left → fits item → All fits after
  all_fit fits left after item is all one = subst (All fits) (sym is) (All-push fits left item all one)

  -- what the pass has in its list, where it took one item more
  pub taken_on : (first a old b : Account T) (left after : List T) (item : T) → old ≡ a → HasTaken old item b → after ≡ left ++ item ∷ [] → (a.share ≡ WHOLE_SHARE → (items : List T) → IsContent a items → IsContent first (left ++ items))
      → b.share ≡ WHOLE_SHARE → (items : List T) → IsContent b items → IsContent first (after ++ items)
  taken_on first a old b left after item same t is so_far whole items c =
      let full : old.share ≡ WHOLE_SHARE = sym (ap (λ (z : Account T). z.share) t.is) ∙ whole in
      let before : IsContent a (item ∷ items) = subst (λ (z : Account T). IsContent z (item ∷ items)) same (before_take old b item items full t c) in
      let all : left ++ (item ∷ items) ≡ after ++ items = sym (append_assoc left (item ∷ []) items) ∙ ap (λ l. l ++ items) (sym is) in
      subst (IsContent first) all (so_far (sym (ap (λ (z : Account T). z.share) same) ∙ full) (item ∷ items) before)

  -- and where the queue holds nothing more
  pub closed : (fits : T → Type 0) (first a : Account T) (left : List T) → a.share ≡ first.share → (a.share ≡ WHOLE_SHARE → (items : List T) → IsContent a items → IsContent first (left ++ items)) → Held 0 (Knows fits a) → first.share ≡ WHOLE_SHARE → IsContent first left
  closed fits first a left share so_far held whole =
      let knows : Knows fits a held.0 = held.2 in
      let full : a.share ≡ WHOLE_SHARE = share ∙ whole in
      let none : held.0 ≡ [] = nil_from_length held.0 held.1 in
      subst (IsContent first) (append-nil left) (so_far full [] (subst (IsContent a) none (knows.1 full)))
