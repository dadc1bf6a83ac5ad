-- Rows that tell what reaches what, with one pair more.
use Rattle.std.proofs.Common.{◌≡◌, ◌≢◌, ℕ, ◌+◌, ◌<◌, ◌≤◌, ◌/◌, Bool, true, false, ◌&&◌, ◌||◌, ◌==◌, List, [], length, get_or, slice_set, ◌⊎◌, refl, sym, ap, ◌∙◌, subst, arith, inl, inr, get_or-set_other, get_or-set_same, length-set}
use Rattle.std.proofs.lemmas.Bool.{both_ways, cases_Bool, cases_eq, cases_lt, or_cases, or_left, or_right, and_parts, and_from, eq-eqb, eqb-true, ne_eqb}
use Rattle.std.proofs.lemmas.List.{get_or_past}
use Rattle.ecf_graph.specs.Paths.{Reaches, with_pair}
use Rattle.ecf_graph.specs.PathLemmas.{chain, wider}
use Rattle.ecf_graph.specs.Rows.{is_in_row, is_member}
use Rattle.ecf_graph.specs.RowLemmas.{in_row_other, in_row_past, in_row_same, member_past}
use Rattle.ecf_precedence.specs.Laws.{OnePairMore}
use Rattle.ecf_online.specs.Closure.{HasRoomForAll, HoldsReaching, IsClosure, IsReady, IsReadyPair, IsShaped, IsSpread}

pub or_none : (x : Bool) → (x || false) ≡ x
or_none true = refl
or_none false = refl

-- i and those of its row
abbrev pub source : List (List ℕ) → ℕ → ℕ → Bool
source rows i a = is_in_row rows i a || (a == i)

-- one row took in i and those of its row
pub record Joins (old : List (List ℕ)) (k i : ℕ) (new : List (List ℕ)) : Type 0 where
  pub joined : (a b : ℕ) → is_in_row new b a ≡ (is_in_row old b a || ((b == k) && source old i a))
  pub words : (b : ℕ) → length (get_or new b []) ≡ length (get_or old b [])
  pub long : length new ≡ length old

assoc : (x y z : Bool) → ((x || y) || z) ≡ (x || (y || z))
assoc true y z = refl
assoc false y z = refl

once : (x z : Bool) → ((x || false) || z) ≡ (x || (x || z))
once true z = refl
once false z = refl

-- what stands in a row while that of k is taken out
pub while_taken : (rows : List (List ℕ)) (k i : ℕ) (empty : List ℕ) (a : ℕ) → k < length rows → is_member empty a ≡ false →
    ((i ≡ k) × (is_member (get_or (slice_set rows k empty) i []) a ≡ false)) ⊎ ((i ≢ k) × (is_member (get_or (slice_set rows k empty) i []) a ≡ is_in_row rows i a))
unfolding is_in_row
while_taken rows k i empty a h none = elim (cases_eq i k) [
  | inl e ↦ inl (e, ap (λ x. is_member (get_or (slice_set rows k empty) x []) a) e ∙ (ap (λ r. is_member r a) (get_or-set_same rows k empty [] h) ∙ none))
  | inr n ↦ inr (n, ap (λ r. is_member r a) (get_or-set_other rows k i empty [] n))
]

-- a row was taken out, took in that of i, and i, and was put back
pub put_back : (rows : List (List ℕ)) (k i : ℕ) (empty taken other absorbed put : List ℕ) → k < length rows → ((a : ℕ) → is_member empty a ≡ false) → taken ≡ get_or rows k [] → other ≡ get_or (slice_set rows k empty) i [] →
    ((a : ℕ) → is_member absorbed a ≡ (is_member taken a || is_member other a)) → ((a : ℕ) → is_member put a ≡ (is_member absorbed a || (a == i))) →
    (a b : ℕ) → is_in_row (slice_set (slice_set rows k empty) k put) b a ≡ (is_in_row rows b a || ((b == k) && source rows i a))
unfolding is_in_row
put_back rows k i empty taken other absorbed put h none is_taken is_other is_absorbed is_put a b = elim (cases_eq b k) [
  | inl e ↦
      let len = length-set rows k empty in
      let row : is_member taken a ≡ is_in_row rows k a = ap (λ r. is_member r a) is_taken in
      in_row_same (slice_set rows k empty) k b a put (omega (arith, h, len)) e ∙ (is_put a ∙ (ap (λ x. x || (a == i)) (is_absorbed a ∙ ap (λ x. x || is_member other a) row) ∙
      (here row ∙ (ap (λ x. is_in_row rows x a || source rows i a) (sym e) ∙ ap (λ x. is_in_row rows b a || (x && source rows i a)) (sym (eq-eqb b k e))))))
  | inr n ↦
      in_row_other (slice_set rows k empty) k b a put n ∙ (in_row_other rows k b a empty n ∙
      (sym (or_none (is_in_row rows b a)) ∙ ap (λ x. is_in_row rows b a || (x && source rows i a)) (sym (ne_eqb b k n))))
]
  where
    here : is_member taken a ≡ is_in_row rows k a → ((is_in_row rows k a || is_member other a) || (a == i)) ≡ (is_in_row rows k a || source rows i a)
    here row = elim (while_taken rows k i empty a h (none a)) [
      | inl (e, f) ↦ ap (λ x. (is_in_row rows k a || x) || (a == i)) (ap (λ r. is_member r a) is_other ∙ f) ∙ (once (is_in_row rows k a) (a == i) ∙ ap (λ x. is_in_row rows k a || (is_in_row rows x a || (a == i))) (sym e))
      | inr (n, f) ↦ ap (λ x. (is_in_row rows k a || x) || (a == i)) (ap (λ r. is_member r a) is_other ∙ f) ∙ assoc (is_in_row rows k a) (is_in_row rows i a) (a == i)
    ]

joins_here : (old new : List (List ℕ)) (k i a b : ℕ) → Joins old k i new → b ≡ k → is_in_row new b a ≡ (is_in_row old b a || source old i a)
joins_here old new k i a b j same = j.joined a b ∙ ap (λ x. is_in_row old b a || (x && source old i a)) (eq-eqb b k same)

joins_apart : (old new : List (List ℕ)) (k i a b : ℕ) → Joins old k i new → b ≢ k → is_in_row new b a ≡ is_in_row old b a
joins_apart old new k i a b j apart = j.joined a b ∙ (ap (λ x. is_in_row old b a || (x && source old i a)) (ne_eqb b k apart) ∙ or_none (is_in_row old b a))

-- joined below k, and the others as they were; i has what it had, but for itself
pub record SpreadTo (old : List (List ℕ)) (i j : ℕ) (new : List (List ℕ)) (k : ℕ) : Type 0 where
  pub joined : (a b : ℕ) → b < k → is_in_row new b a ≡ (is_in_row old b a || (((b == j) || is_in_row old b j) && source old i a))
  pub rest : (a b : ℕ) → k ≤ b → is_in_row new b a ≡ is_in_row old b a
  pub source_is : (a : ℕ) → source new i a ≡ source old i a
  pub words : (b : ℕ) → length (get_or new b []) ≡ length (get_or old b [])
  pub long : length new ≡ length old

again : (x y : Bool) → ((x || (x || y)) || y) ≡ (x || y)
again true y = refl
again false true = refl
again false false = refl

pub spread_join : (old : List (List ℕ)) (i j : ℕ) (new new' : List (List ℕ)) (k : ℕ) → ((k == j) || is_in_row new k j) ≡ true → Joins new k i new' → SpreadTo old i j new k → SpreadTo old i j new' (k + 1)
spread_join old i j new new' k test f s = record {
  joined = λ a b l. elim (cases_eq b k) [
    | inl same ↦
        let at_b : ((b == j) || is_in_row old b j) ≡ true = ap (λ x. (x == j) || is_in_row old x j) same ∙ (ap (λ x. (k == j) || x) (sym (s.rest j k (omega arith))) ∙ test) in
        joins_here new new' k i a b f same ∙ (ap (λ x. x || source new i a) (s.rest a b (omega (arith, same))) ∙ (ap (λ x. is_in_row old b a || x) (s.source_is a) ∙ ap (λ x. is_in_row old b a || (x && source old i a)) (sym at_b)))
    | inr apart ↦ joins_apart new new' k i a b f apart ∙ s.joined a b (omega (arith, l, apart))
  ];
  rest = λ a b l. (let n : b ≢ k = omega (arith, l) in joins_apart new new' k i a b f n ∙ s.rest a b (omega (arith, l)));
  source_is = λ a. elim (cases_eq i k) [
    | inl same ↦ ap (λ x. x || (a == i)) (joins_here new new' k i a i f same) ∙ (again (is_in_row new i a) (a == i) ∙ s.source_is a)
    | inr apart ↦ ap (λ x. x || (a == i)) (joins_apart new new' k i a i f apart) ∙ s.source_is a
  ];
  words = λ b. f.words b ∙ s.words b;
  long = f.long ∙ s.long;
}

pub spread_skip : (old : List (List ℕ)) (i j : ℕ) (new : List (List ℕ)) (k : ℕ) → ((k == j) || is_in_row new k j) ≡ false → SpreadTo old i j new k → SpreadTo old i j new (k + 1)
spread_skip old i j new k test s = record {
  joined = λ a b l. elim (cases_eq b k) [
    | inl same ↦
        let at_b : ((b == j) || is_in_row old b j) ≡ false = ap (λ x. (x == j) || is_in_row old x j) same ∙ (ap (λ x. (k == j) || x) (sym (s.rest j k (omega arith))) ∙ test) in
        s.rest a b (omega (arith, same)) ∙ (sym (or_none (is_in_row old b a)) ∙ ap (λ x. is_in_row old b a || (x && source old i a)) (sym at_b))
    | inr apart ↦ s.joined a b (omega (arith, l, apart))
  ];
  rest = λ a b l. s.rest a b (omega (arith, l));
  source_is = s.source_is;
  words = s.words;
  long = s.long;
}

pub spread_end : (old : List (List ℕ)) (i j : ℕ) (new : List (List ℕ)) (k : ℕ) → length old ≤ k → SpreadTo old i j new k → IsSpread old i j new
spread_end old i j new k h s = record { joined = λ a b l. s.joined a b (omega (arith, h, l)); long = s.long }

pub spread_none : (old : List (List ℕ)) (i j : ℕ) → SpreadTo old i j old 0
spread_none old i j = record { joined = λ a b l. absurd (omega (arith, l)); rest = λ a b l. refl; source_is = λ a. refl; words = λ b. refl; long = refl }

-- rows with words
pub ready_within : (rows : List (List ℕ)) (i : ℕ) → IsReady rows i → i < length rows
ready_within rows i h = elim (cases_lt i (length rows)) [
  | inl l ↦ l
  | inr g ↦ (let e : length (get_or rows i []) ≡ 0 = ap (λ r. length r) (get_or_past rows i [] g) in absurd (omega (arith, h, e)))
]

pub in_row_ready : (rows : List (List ℕ)) (k a : ℕ) → is_in_row rows k a ≡ true → IsReady rows k
unfolding is_in_row
in_row_ready rows k a h = elim (cases_lt 0 (length (get_or rows k []))) [
  | inl l ↦ l
  | inr g ↦ absurd (both_ways _ (member_past (get_or rows k []) a (omega (arith, g))) h)
]

pub ready_same : (old new : List (List ℕ)) → ((b : ℕ) → length (get_or new b []) ≡ length (get_or old b [])) → (i : ℕ) → IsReady old i → IsReady new i
ready_same old new words i h = let e = words i in omega (arith, h, e)

-- what a row that is reached has room for
pub record HasRoomFor (rows : List (List ℕ)) (k i : ℕ) : Type 0 where
  pub members : (a : ℕ) → is_in_row rows i a ≡ true → a / 64 < length (get_or rows k [])
  pub own : i / 64 < length (get_or rows k [])
  pub place : i < length rows

pub room_at : (old : List (List ℕ)) (i j : ℕ) (new : List (List ℕ)) (k : ℕ) → IsShaped old → IsReadyPair old (i, j) → ((k == j) || is_in_row new k j) ≡ true → SpreadTo old i j new k → HasRoomFor new k i
room_at old i j new k h ready test s =
    let at_k : IsReady old k = elim (or_cases _ _ test) [
      | inl e ↦ subst (λ x. IsReady old x) (sym (eqb-true k j e)) ready.1
      | inr e ↦ in_row_ready old k j (sym (s.rest j k (omega arith)) ∙ e)
    ] in
    let words = s.words k in
    let long = s.long in
    let wide : ((a : ℕ) → IsReady old a → a / 64 < length (get_or new k [])) = λ a r. (let l = h.wide k a at_k r in omega (arith, l, words)) in
    record {
      members = λ a e. elim (or_cases _ _ (sym (s.source_is a) ∙ or_left (is_in_row new i a) (a == i) e)) [
        | inl f ↦ wide a (h.members i a f)
        | inr f ↦ wide a (subst (λ x. IsReady old x) (sym (eqb-true a i f)) ready.0)
      ];
      own = wide i ready.0;
      place = (let l = ready_within old i ready.0 in omega (arith, l, long));
    }

-- what spread says of every row
spread_all : (old : List (List ℕ)) (i j : ℕ) (new : List (List ℕ)) → j < length old → IsSpread old i j new → (a b : ℕ) → is_in_row new b a ≡ (is_in_row old b a || (((b == j) || is_in_row old b j) && source old i a))
spread_all old i j new h s a b = elim (cases_lt b (length old)) [
  | inl l ↦ s.joined a b l
  | inr g ↦
      let n : b ≢ j = omega (arith, g, h) in
      let w = s.long in
      let none : is_in_row old b a ≡ false = in_row_past old b a g in
      let not_j : is_in_row old b j ≡ false = in_row_past old b j g in
      in_row_past new b a (omega (arith, g, w)) ∙ sym (ap (λ x. x || (((b == j) || is_in_row old b j) && source old i a)) none ∙ (ap (λ x. (x || is_in_row old b j) && source old i a) (ne_eqb b j n) ∙ ap (λ x. x && source old i a) not_j))
]

-- where no row has j one row takes the pair
pub spread_near : (old : List (List ℕ)) (i j : ℕ) (new : List (List ℕ)) → ((b : ℕ) → is_in_row old b j ≡ false) → Joins old j i new → IsSpread old i j new
spread_near old i j new none f = record {
  joined = λ a b l. f.joined a b ∙ ap (λ x. is_in_row old b a || (x && source old i a)) (sym (ap (λ x. (b == j) || x) (none b) ∙ or_none (b == j)));
  long = f.long;
}

-- those that reach any
pub no_row_has : (rows : List (List ℕ)) (set : List ℕ) (j : ℕ) → HoldsReaching rows set → is_member set j ≡ false → (b : ℕ) → is_in_row rows b j ≡ false
no_row_has rows set j h none b = elim (cases_Bool (is_in_row rows b j)) [
  | inl t ↦ absurd (both_ways _ none (h b j t))
  | inr f ↦ f
]

pub reaching_pair : (old : List (List ℕ)) (i j : ℕ) (new : List (List ℕ)) (set set' : List ℕ) → j < length old → IsSpread old i j new → ((k : ℕ) → is_member set' k ≡ (is_member set k || (k == i))) → HoldsReaching old set → HoldsReaching new set'
reaching_pair old i j new set set' h s put f b a e = put a ∙ elim (or_cases _ _ (sym (spread_all old i j new h s a b) ∙ e)) [
  | inl k ↦ or_left _ _ (f b a k)
  | inr k ↦ elim (or_cases _ _ (and_parts _ _ k).1) [
    | inl m ↦ or_left _ _ (f i a m)
    | inr m ↦ or_right _ _ m
  ]
]

pub reaching_same : (old new : List (List ℕ)) (set set' : List ℕ) → ((b a : ℕ) → is_in_row new b a ≡ is_in_row old b a) → ((a : ℕ) → is_member set' a ≡ is_member set a) → HoldsReaching old set → HoldsReaching new set'
reaching_same old new set set' rows_same set_same h b a e = set_same a ∙ h b a (sym (rows_same b a) ∙ e)

pub reaching_none : (rows : List (List ℕ)) (set : List ℕ) → rows ≡ [] → HoldsReaching rows set
reaching_none rows set none b a e = (let l : length rows ≡ 0 = ap (λ r. length r) none in absurd (both_ways _ (in_row_past rows b a (omega (arith, l))) e))

-- room in a set stays
pub room_same : (old new : List (List ℕ)) (set set' : List ℕ) → ((b : ℕ) → length (get_or new b []) ≡ length (get_or old b [])) → length set' ≡ length set → HasRoomForAll old set → HasRoomForAll new set'
room_same old new set set' words same h a p = (let e = words a in let l = h a (omega (arith, p, e)) in omega (arith, l, same))

pub shaped_spread : (old : List (List ℕ)) (i j : ℕ) (new : List (List ℕ)) → IsShaped old → IsReadyPair old (i, j) → IsSpread old i j new → ((b : ℕ) → length (get_or new b []) ≡ length (get_or old b [])) → IsShaped new
shaped_spread old i j new h ready s words = record {
  members = λ b a e. ready_same old new words a (elim (or_cases _ _ (sym (spread_all old i j new (ready_within old j ready.1) s a b) ∙ e)) [
    | inl f ↦ h.members b a f
    | inr f ↦ elim (or_cases _ _ (and_parts _ _ f).1) [
      | inl g ↦ h.members i a g
      | inr g ↦ subst (λ x. IsReady old x) (sym (eqb-true a i g)) ready.0
    ]
  ]);
  wide = λ k a p q.
      let at_k = words k in
      let at_a = words a in
      let l = h.wide k a (omega (arith, p, at_k)) (omega (arith, q, at_a)) in omega (arith, l, at_k);
}

pub closure_same : (r : ℕ → ℕ → Bool) (rows rows' : List (List ℕ)) → ((b a : ℕ) → is_in_row rows' b a ≡ is_in_row rows b a) → IsClosure r rows → IsClosure r rows'
closure_same r rows rows' e c = record { sound = λ a b h. c.sound a b (sym (e b a) ∙ h); whole = λ a b p. e b a ∙ c.whole a b p }

pub closure_alike : (r q : ℕ → ℕ → Bool) (rows : List (List ℕ)) → ((a b : ℕ) → r a b ≡ q a b) → IsClosure r rows → IsClosure q rows
closure_alike r q rows e c = record {
  sound = λ a b h. wider (λ x y f. sym (e x y) ∙ f) (c.sound a b h);
  whole = λ a b p. c.whole a b (wider (λ x y f. e x y ∙ f) p);
}

-- a pair that is reached adds nothing
pub closure_reached : OnePairMore → (r : ℕ → ℕ → Bool) (i j : ℕ) (rows : List (List ℕ)) → is_in_row rows j i ≡ true → IsClosure r rows → IsClosure (with_pair r i j) rows
closure_reached one_pair_more r i j rows e c = record {
  sound = λ a b h. (one_pair_more r i j a b).1 (inl (c.sound a b h));
  whole = λ a b p. c.whole a b (elim ((one_pair_more r i j a b).0 p) [
    | inl q ↦ q
    | inr (x, y) ↦ to_end a b (c.sound i j e) x y
  ]);
}
  where
    to_end : (a b : ℕ) → Reaches r i j → (a ≡ i) ⊎ Reaches r a i → (b ≡ j) ⊎ Reaches r j b → Reaches r a b
    to_end a b p x y =
        let first : Reaches r a j = elim x [ inl same ↦ subst (λ z. Reaches r z j) (sym same) p | inr q ↦ chain q p ] in
        elim y [ inl same ↦ subst (λ z. Reaches r a z) (sym same) first | inr q ↦ chain first q ]

pub closure_pair : OnePairMore → (r : ℕ → ℕ → Bool) (i j : ℕ) (rows rows' : List (List ℕ)) → j < length rows → IsSpread rows i j rows' → IsClosure r rows → IsClosure (with_pair r i j) rows'
closure_pair one_pair_more r i j rows rows' h s c = record {
  sound = λ a b f. (one_pair_more r i j a b).1 (elim (or_cases _ _ (sym (spread_all rows i j rows' h s a b) ∙ f)) [
    | inl k ↦ inl (c.sound a b k)
    | inr k ↦ (let p = and_parts _ _ k in inr (in_set a p.1, at_row b p.0))
  ]);
  whole = λ a b p. spread_all rows i j rows' h s a b ∙ elim ((one_pair_more r i j a b).0 p) [
    | inl q ↦ or_left _ _ (c.whole a b q)
    | inr (x, y) ↦ or_right _ _ (and_from _ _ (row_at b y) (set_in a x))
  ];
}
  where
    in_set : (a : ℕ) → source rows i a ≡ true → (a ≡ i) ⊎ Reaches r a i
    in_set a f = elim (or_cases _ _ f) [ inl k ↦ inr (c.sound a i k) | inr k ↦ inl (eqb-true a i k) ]

    set_in : (a : ℕ) → (a ≡ i) ⊎ Reaches r a i → source rows i a ≡ true
    set_in a (inl same) = or_right _ _ (eq-eqb a i same)
    set_in a (inr p) = or_left _ _ (c.whole a i p)

    at_row : (b : ℕ) → ((b == j) || is_in_row rows b j) ≡ true → (b ≡ j) ⊎ Reaches r j b
    at_row b f = elim (or_cases _ _ f) [ inl k ↦ inl (eqb-true b j k) | inr k ↦ inr (c.sound j b k) ]

    row_at : (b : ℕ) → (b ≡ j) ⊎ Reaches r j b → ((b == j) || is_in_row rows b j) ≡ true
    row_at b (inl same) = or_left _ _ (eq-eqb b j same)
    row_at b (inr p) = or_right _ _ (c.whole j b p)
