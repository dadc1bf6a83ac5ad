-- Rows made wider.
use Rattle.std.proofs.Common.{◌≡◌, ◌≢◌, ℕ, ◌+◌, ◌<◌, ◌≤◌, ◌/◌, Bool, true, false, max, if◌then◌else◌, List, [], length, get_or, slice_set, ◌⊎◌, refl, sym, ap, ◌∙◌, subst, arith, inl, inr, get_or-set_other, get_or-set_same}
use Rattle.std.proofs.lemmas.Bool.{cases_eq}
use Rattle.ecf_graph.specs.Rows.{is_in_row, is_member}
use Rattle.ecf_graph.specs.RowLemmas.{in_row_other, in_row_same}
use Rattle.ecf_online.specs.Closure.{IsReady}
use Rattle.ecf_online.specs.Widening.{OpensRow, RowsWider, Widens}

pub widens_none : (rows : List (List ℕ)) (seen : List ℕ) (width : ℕ) → Widens rows seen width rows seen width
widens_none rows seen width = record { same = λ b a. refl; set = λ a. refl; ready = λ b p. p; wide = λ w. w }

pub widens_then : (rows rows1 rows2 : List (List ℕ)) (seen seen1 seen2 : List ℕ) (width width1 width2 : ℕ) → Widens rows seen width rows1 seen1 width1 → Widens rows1 seen1 width1 rows2 seen2 width2 → Widens rows seen width rows2 seen2 width2
widens_then rows rows1 rows2 seen seen1 seen2 width width1 width2 f g = record {
  same = λ b a. g.same b a ∙ f.same b a;
  set = λ a. g.set a ∙ f.set a;
  ready = λ b p. g.ready b (f.ready b p);
  wide = λ w. g.wide (f.wide w);
}

-- rows with words, and those without, stay such rows
wider_ready : (rows rows1 : List (List ℕ)) → RowsWider rows rows1 → (b : ℕ) → IsReady rows b → IsReady rows1 b
wider_ready rows rows1 w b p = let l = w.longer b in omega (arith, p, l)

ready_wider : (rows rows1 : List (List ℕ)) → RowsWider rows rows1 → (b : ℕ) → IsReady rows1 b → IsReady rows b
ready_wider rows rows1 w b p = elim (cases_eq (length (get_or rows b [])) 0) [
  | inl e ↦ (let f = w.none b e in absurd (omega (arith, p, f)))
  | inr n ↦ omega (arith, n)
]

pub wider_keeps : (rows rows1 : List (List ℕ)) (seen seen1 : List ℕ) (width : ℕ) → RowsWider rows rows1 → ((a : ℕ) → is_member seen1 a ≡ is_member seen a) → length seen ≤ length seen1 → Widens rows seen width rows1 seen1 width
wider_keeps rows rows1 seen seen1 width r s l = record {
  same = r.same;
  set = s;
  ready = wider_ready rows rows1 r;
  wide = λ w. record {
    wide = λ b p. (let f = w.wide b (ready_wider rows rows1 r b p) in let g = r.longer b in omega (arith, f, g));
    own = λ b p. w.own b (ready_wider rows rows1 r b p);
    members = λ b a e. wider_ready rows rows1 r a (w.members b a (sym (r.same b a) ∙ e));
    set = (let f = w.set in omega (arith, f, l));
  };
}

pub wider_grows : (rows rows1 : List (List ℕ)) (seen seen1 : List ℕ) (width needed : ℕ) → RowsWider rows rows1 → ((b : ℕ) → IsReady rows1 b → needed ≤ length (get_or rows1 b [])) → ((a : ℕ) → is_member seen1 a ≡ is_member seen a) → needed ≤ length seen1 → width ≤ needed → Widens rows seen width rows1 seen1 needed
wider_grows rows rows1 seen seen1 width needed r all s l n = record {
  same = r.same;
  set = s;
  ready = wider_ready rows rows1 r;
  wide = λ w. record {
    wide = all;
    own = λ b p. (let f = w.own b (ready_wider rows rows1 r b p) in omega (arith, f, n));
    members = λ b a e. wider_ready rows rows1 r a (w.members b a (sym (r.same b a) ∙ e));
    set = l;
  };
}

pub opens_keeps : (rows rows1 : List (List ℕ)) (seen : List ℕ) (width i : ℕ) → i / 64 < width → OpensRow rows width i rows1 → Widens rows seen width rows1 seen width
opens_keeps rows rows1 seen width i h o = record {
  same = o.same;
  set = λ a. refl;
  ready = ready;
  wide = λ w. record {
    wide = λ b p. elim (cases_eq b i) [
      | inl e ↦ subst (λ x. width ≤ length (get_or rows1 x [])) (sym e) (elim (o.wide (subst (λ x. IsReady rows1 x) e p)) [
        | inl l ↦ l
        | inr f ↦ (let at_i : IsReady rows1 i = subst (λ x. IsReady rows1 x) e p in let l = w.wide i (omega (arith, at_i, f)) in omega (arith, l, f))
      ])
      | inr n ↦ (let f = o.others b n in let l = w.wide b (omega (arith, p, f)) in omega (arith, l, f))
    ];
    own = λ b p. elim (cases_eq b i) [
      | inl e ↦ omega (arith, e, h)
      | inr n ↦ (let f = o.others b n in w.own b (omega (arith, p, f)))
    ];
    members = λ b a e. ready a (w.members b a (sym (o.same b a) ∙ e));
    set = w.set;
  };
}
  where
    ready : (b : ℕ) → IsReady rows b → IsReady rows1 b
    ready b p = let l = o.longer b in omega (arith, p, l)

-- a row got its words, or didn't
pub opens_row : (rows rows1 : List (List ℕ)) (width i : ℕ) (row : List ℕ) (ok : Bool) → ((b a : ℕ) → is_in_row rows1 b a ≡ is_in_row rows b a) → ((b : ℕ) → length (get_or rows1 b []) ≡ length (get_or rows b [])) → i < length rows1 →
    ((a : ℕ) → is_member row a ≡ is_in_row rows1 i a) → length row ≡ (if ok then max width (length (get_or rows1 i [])) else length (get_or rows1 i [])) → OpensRow rows width i (slice_set rows1 i row)
opens_row rows rows1 width i row ok same words at_i members size = record {
  same = λ b a. elim (cases_eq b i) [
    | inl e ↦ in_row_same rows1 i b a row at_i e ∙ (members a ∙ (ap (λ x. is_in_row rows1 x a) (sym e) ∙ same b a))
    | inr n ↦ in_row_other rows1 i b a row n ∙ same b a
  ];
  longer = λ b. elim (cases_eq b i) [
    | inl e ↦ (let f = here b e in let g = longer ok size in let k = words i in let j : length (get_or rows b []) ≡ length (get_or rows i []) = ap (λ x. length (get_or rows x [])) e in omega (arith, f, g, k, j))
    | inr n ↦ (let f = there b n in let k = words b in omega (arith, f, k))
  ];
  wide = λ p. wide ok size;
  others = λ b n. there b n ∙ words b;
}
  where
    here : (b : ℕ) → b ≡ i → length (get_or (slice_set rows1 i row) b []) ≡ length row
    here b e = ap (λ x. length (get_or (slice_set rows1 i row) x [])) e ∙ ap (λ r. length r) (get_or-set_same rows1 i row [] at_i)

    there : (b : ℕ) → b ≢ i → length (get_or (slice_set rows1 i row) b []) ≡ length (get_or rows1 b [])
    there b n = ap (λ r. length r) (get_or-set_other rows1 i b row [] n)

    longer : (x : Bool) → length row ≡ (if x then max width (length (get_or rows1 i [])) else length (get_or rows1 i [])) → length (get_or rows1 i []) ≤ length row
    longer true e = omega (arith, e)
    longer false e = omega (arith, e)

    wide : (x : Bool) → length row ≡ (if x then max width (length (get_or rows1 i [])) else length (get_or rows1 i [])) → (width ≤ length (get_or (slice_set rows1 i row) i [])) ⊎ (length (get_or (slice_set rows1 i row) i []) ≡ length (get_or rows i []))
    wide true e = inl (let f = here i refl in omega (arith, e, f))
    wide false e = inr (here i refl ∙ (e ∙ words i))

pub opens_none : (rows rows1 : List (List ℕ)) (width i : ℕ) → ((b a : ℕ) → is_in_row rows1 b a ≡ is_in_row rows b a) → ((b : ℕ) → length (get_or rows1 b []) ≡ length (get_or rows b [])) → OpensRow rows width i rows1
opens_none rows rows1 width i same words = record {
  same = same;
  longer = λ b. (let e = words b in omega (arith, e));
  wide = λ p. inr (words i);
  others = λ b n. words b;
}

-- rows made wider one by one
pub rows_wider_none : (rows : List (List ℕ)) → RowsWider rows rows
rows_wider_none rows = record { same = λ b a. refl; longer = λ b. omega arith; none = λ b e. e }

pub rows_wider_next : (rows rows1 : List (List ℕ)) (k : ℕ) (row : List ℕ) → k < length rows1 → ((a : ℕ) → is_member row a ≡ is_in_row rows1 k a) → length (get_or rows1 k []) ≤ length row → (length (get_or rows1 k []) ≡ 0 → length row ≡ 0) → RowsWider rows rows1 → RowsWider rows (slice_set rows1 k row)
rows_wider_next rows rows1 k row at_k members longer none w = record {
  same = λ b a. elim (cases_eq b k) [
    | inl e ↦ in_row_same rows1 k b a row at_k e ∙ (members a ∙ (ap (λ x. is_in_row rows1 x a) (sym e) ∙ w.same b a))
    | inr n ↦ in_row_other rows1 k b a row n ∙ w.same b a
  ];
  longer = λ b. elim (cases_eq b k) [
    | inl e ↦ (let f = here b e in let l = w.longer k in let j : length (get_or rows b []) ≡ length (get_or rows k []) = ap (λ x. length (get_or rows x [])) e in omega (arith, f, l, j, longer))
    | inr n ↦ (let f = there b n in let l = w.longer b in omega (arith, f, l))
  ];
  none = λ b z. elim (cases_eq b k) [
    | inl e ↦ here b e ∙ none (w.none k (ap (λ x. length (get_or rows x [])) (sym e) ∙ z))
    | inr n ↦ there b n ∙ w.none b z
  ];
}
  where
    here : (b : ℕ) → b ≡ k → length (get_or (slice_set rows1 k row) b []) ≡ length row
    here b e = ap (λ x. length (get_or (slice_set rows1 k row) x [])) e ∙ ap (λ r. length r) (get_or-set_same rows1 k row [] at_k)

    there : (b : ℕ) → b ≢ k → length (get_or (slice_set rows1 k row) b []) ≡ length (get_or rows1 b [])
    there b n = ap (λ r. length r) (get_or-set_other rows1 k b row [] n)

-- those below a place are wide
pub wide_next : (rows1 : List (List ℕ)) (width k : ℕ) (row : List ℕ) → k < length rows1 → (0 < length (get_or rows1 k []) → width ≤ length row) → (length (get_or rows1 k []) ≡ 0 → length row ≡ 0) → ((b : ℕ) → b < k → IsReady rows1 b → width ≤ length (get_or rows1 b [])) →
    (b : ℕ) → b < k + 1 → IsReady (slice_set rows1 k row) b → width ≤ length (get_or (slice_set rows1 k row) b [])
wide_next rows1 width k row at_k wide none below b l p = elim (cases_eq b k) [
  | inl e ↦
      let f : length (get_or (slice_set rows1 k row) b []) ≡ length row = ap (λ x. length (get_or (slice_set rows1 k row) x [])) e ∙ ap (λ r. length r) (get_or-set_same rows1 k row [] at_k) in
      elim (cases_eq (length (get_or rows1 k [])) 0) [
        | inl z ↦ (let g = none z in absurd (omega (arith, p, f, g)))
        | inr n ↦ (let g = wide (omega (arith, n)) in omega (arith, f, g))
      ]
  | inr n ↦
      let f : length (get_or (slice_set rows1 k row) b []) ≡ length (get_or rows1 b []) = ap (λ r. length r) (get_or-set_other rows1 k b row [] n) in
      let g = below b (omega (arith, l, n)) (omega (arith, p, f)) in omega (arith, f, g)
]
