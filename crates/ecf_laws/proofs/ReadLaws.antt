-- What a run reads is what its store holds, and what it reads decides it.
use Rattle.std.proofs.Common.{◌≡◌, ℕ, ◌-◌, Bool, true, false, cond, List, [], ◌∷◌, ◌++◌, Option, Some, None, refl, ap, sym, subst, ◌∙◌, append_assoc}
use Rattle.std.specs.Prelude.{All, AllPairs, ◌≢◌, ◌||◌, if◌then◌else◌, is_some, nat_le, unwrap_or}
use Rattle.std.specs.declared.cmp.Ordering.{Ordering}
use Rattle.std.specs.declared.cmp.Ordering.TheVariants.{Less, Equal, Greater}
use Rattle.std.specs.Ordering.{is_eq}
use Rattle.std.specs.Map.{keys_of}
use Rattle.std.proofs.lemmas.Cmp.{tied_itself}
use Rattle.std.proofs.lemmas.List.{append-nil}
use Rattle.std.proofs.lemmas.List.Elements.{All-nil, All-cons, All-head, All-tail, All-push, All-contains, All-get_or, Contains-push}
use Rattle.std.proofs.lemmas.List.Quantifiers.{all_pairs_push}
use Rattle.ecf_lang.specs.declared.cell.Cell.{Cell}
use Rattle.ecf_lang.specs.declared.costs.TheConstants.{READ, WRITE}
use Rattle.ecf_lang.specs.declared.run.Invocation.{Invocation}
use Rattle.ecf_lang.specs.Store.{Store, Cells, IsRising, cell_cmp, find_cell, read}
use Rattle.ecf_lang.specs.Part.{State, Control, Done, Exit, Reverts, RunsOut, Part, after, ◌>>=◌, pure, pay, read_cell, write_cell, attempt_of, with_read, begin}
use Rattle.ecf_lang.specs.Draft.{AgreesWith}
use Rattle.ecf_laws.specs.Parts.{end_state}
use Rattle.std.proofs.lemmas.Option.{same_Some}
use Rattle.ecf_laws.proofs.PartLaws as parts
use Rattle.ecf_stores.specs.OrderLaws.{cell_order_is_total, cell_order_is_exact}
use Rattle.ecf_stores.specs.PairLaws.{set_keeps_rising}

-- pairs and the cells found among them

found_is : (pairs : Cells) (store : Store) (cell : Cell) (value : ℕ) → AgreesWith pairs store → find_cell pairs cell ≡ Some value → read store cell ≡ value
found_is [] store cell value agrees h = absurd (cc)
found_is (e ∷ es) store cell value agrees h = by (cell_cmp cell e.0) refl h (found_is es store cell value (All-tail (λ (p : Cell × ℕ). read store p.0 ≡ p.1) e es agrees))
  where
    by : (o : Ordering) → cell_cmp cell e.0 ≡ o → cond (is_eq o) (Some e.1) (find_cell es cell) ≡ Some value → (find_cell es cell ≡ Some value → read store cell ≡ value) → read store cell ≡ value
    by Less is h later = later h
    by Equal is h later = ap (read store) (cell_order_is_exact cell e.0 is) ∙ All-head (λ (p : Cell × ℕ). read store p.0 ≡ p.1) e es agrees ∙ same_Some _ _ h
    by Greater is h later = later h

none_apart : (pairs : Cells) (cell : Cell) → find_cell pairs cell ≡ None → All (λ k. k ≢ cell) (keys_of pairs)
none_apart [] cell h = All-nil (λ k. k ≢ cell)
none_apart (e ∷ es) cell h = by (cell_cmp cell e.0) refl h (none_apart es cell)
  where
    apart : (o : Ordering) → cell_cmp cell e.0 ≡ o → is_eq o ≡ false → e.0 ≢ cell
    apart o is not_equal same =
        let itself : is_eq o ≡ true = ap is_eq (sym is ∙ ap (cell_cmp cell) same ∙ tied_itself cell_order_is_total cell) in
        cc

    by : (o : Ordering) → cell_cmp cell e.0 ≡ o → ◌≡◌ {A = Option ℕ} (cond (is_eq o) (Some e.1) (find_cell es cell)) None → (find_cell es cell ≡ None → All (λ k. k ≢ cell) (keys_of es)) → All (λ k. k ≢ cell) (keys_of (e ∷ es))
    by Less is h later = All-cons (λ k. k ≢ cell) e.0 (keys_of es) (apart Less is refl) (later h)
    by Equal is h later = absurd (cc)
    by Greater is h later = All-cons (λ k. k ≢ cell) e.0 (keys_of es) (apart Greater is refl) (later h)

keys_push : (pairs : Cells) (p : Cell × ℕ) → keys_of (pairs ++ p ∷ []) ≡ keys_of pairs ++ p.0 ∷ []
keys_push [] p = refl
keys_push (e ∷ es) p = ap (λ l. e.0 ∷ l) (keys_push es p)

all_first : {X : Type 0} (P : X → Type 0) (xs ys : List X) → All P (xs ++ ys) → All P xs
all_first P [] ys a = All-nil P
all_first P (x ∷ xs) ys a = All-cons P x xs (All-head P x (xs ++ ys) a) (all_first P xs ys (All-tail P x (xs ++ ys) a))

-- the reads with one more, unless the cell was written or read
abbrev with_one_read : Option ℕ → Option ℕ → Cells → Cell → ℕ → Cells
with_one_read w r reads cell value = if is_some w || is_some r then reads else reads ++ (cell, value) ∷ []

abbrev Differ : Cells → Type 0
Differ reads = AllPairs (λ a b. a ≢ b) (keys_of reads)

reads_differ : (w r : Option ℕ) (reads : Cells) (cell : Cell) (value : ℕ) → find_cell reads cell ≡ r → Differ reads → Differ (with_one_read w r reads cell value)
reads_differ (Some v) r reads cell value is h = h
reads_differ None (Some x) reads cell value is h = h
reads_differ None None reads cell value is h = subst (AllPairs (λ a b. a ≢ b)) (sym (keys_push reads (cell, value))) (all_pairs_push (λ a b. a ≢ b) (keys_of reads) cell h (λ k d l. All-get_or (λ c. c ≢ cell) (keys_of reads) k d l (none_apart reads cell is)))

reads_agree : (store : Store) (w r : Option ℕ) (reads : Cells) (cell : Cell) → AgreesWith reads store → AgreesWith (with_one_read w r reads cell (unwrap_or w (read store cell))) store
reads_agree store (Some v) r reads cell h = h
reads_agree store None (Some x) reads cell h = h
reads_agree store None None reads cell h = All-push (λ (p : Cell × ℕ). read store p.0 ≡ p.1) reads (cell, read store cell) h refl

reads_grow : (w r : Option ℕ) (reads : Cells) (cell : Cell) (value : ℕ) → (more : Cells) × (with_one_read w r reads cell value ≡ reads ++ more)
reads_grow (Some v) r reads cell value = ([], sym (append-nil reads))
reads_grow None (Some x) reads cell value = ([], sym (append-nil reads))
reads_grow None None reads cell value = ((cell, value) ∷ [], refl)

value_same : (A B : Store) (w r : Option ℕ) (reads : Cells) (cell : Cell) → find_cell reads cell ≡ r → AgreesWith reads A → AgreesWith (with_one_read w r reads cell (unwrap_or w (read A cell))) B → unwrap_or w (read B cell) ≡ unwrap_or w (read A cell)
value_same A B (Some v) r reads cell is a b = refl
value_same A B None (Some x) reads cell is a b = found_is reads B cell x b is ∙ sym (found_is reads A cell x a is)
value_same A B None None reads cell is a b = All-contains (λ (p : Cell × ℕ). read B p.0 ≡ p.1) (reads ++ (cell, read A cell) ∷ []) (cell, read A cell) b (Contains-push reads (cell, read A cell))

module _ (A B : Store) where
  -- what is read is what the first store holds, each cell once, and what is written rises
  pub record Sound (s : State) : Type 0 where
    pub reads_are : AgreesWith s.reads A
    pub differ : Differ s.reads
    pub rising : IsRising s.written

  -- a part on the first store, and the same part on the second: the same where that agrees with what the first read
  pub record Goes (s : State) {T : Type 0} (r t : Control T) : Type 0 where
    pub sound : Sound (end_state r)
    pub more : (more : Cells) × ((end_state r).reads ≡ s.reads ++ more)
    pub same : AgreesWith (end_state r).reads B → t ≡ r

  abbrev pub Same : (T : Type 0) → Option ℕ → Part T → Part T → Type 0
  Same T o m n = (s : State) → Sound s → Goes s (m s) (n s)

  -- a part that neither reads nor writes
  still : {T : Type 0} (s : State) (r : Control T) → Sound s → (end_state r).reads ≡ s.reads → (end_state r).written ≡ s.written → Goes s r r
  still s r h reads written = record {
    sound = record {
      reads_are = subst (λ l. AgreesWith l A) (sym reads) h.reads_are;
      differ = subst Differ (sym reads) h.differ;
      rising = subst IsRising (sym written) h.rising;
    };
    more = ([], reads ∙ sym (append-nil s.reads));
    same = λ _. refl;
  }

  paid_goes : (n : ℕ) (s : State) (invocations : List Invocation) (b : Bool) → Sound s → Goes s {T = Unit {0}} (if b then Done tt (record s { fuel = s.fuel - n; invocations = invocations }) else Exit RunsOut (record s { fuel = 0 })) (if b then Done tt (record s { fuel = s.fuel - n; invocations = invocations }) else Exit RunsOut (record s { fuel = 0 }))
  paid_goes n s invocations true h = still s _ h refl refl
  paid_goes n s invocations false h = still s _ h refl refl

  pay_goes : (inv n : ℕ) → Same (Unit {0}) (Some inv) (pay inv n) (pay inv n)
  unfolding pay
  pay_goes inv n s h = paid_goes n s _ (nat_le n s.fuel) h

  abbrev reading : ℕ → Cell → State → ℕ → Control ℕ
  reading inv cell s value = Done value (record s { reads = with_read s.written s.reads cell value; steps = s.steps ++ record { inv = inv; write = false; cell = cell; value = value } ∷ [] })

  read_goes : (inv : ℕ) (cell : Cell) → Same ℕ (Some inv) (read_cell A inv cell) (read_cell B inv cell)
  unfolding read_cell
  read_goes inv cell s h = record {
    sound = record {
      reads_are = reads_agree A (find_cell s.written cell) (find_cell s.reads cell) s.reads cell h.reads_are;
      differ = reads_differ (find_cell s.written cell) (find_cell s.reads cell) s.reads cell (unwrap_or (find_cell s.written cell) (read A cell)) refl h.differ;
      rising = h.rising;
    };
    more = reads_grow (find_cell s.written cell) (find_cell s.reads cell) s.reads cell (unwrap_or (find_cell s.written cell) (read A cell));
    same = λ agrees. ap (reading inv cell s) (value_same A B (find_cell s.written cell) (find_cell s.reads cell) s.reads cell refl h.reads_are agrees);
  }

  write_goes : (inv : ℕ) (cell : Cell) (value : ℕ) → Same (Unit {0}) (Some inv) (write_cell inv cell value) (write_cell inv cell value)
  unfolding write_cell
  write_goes inv cell value s h = record {
    sound = record { reads_are = h.reads_are; differ = h.differ; rising = set_keeps_rising s.written cell value h.rising };
    more = ([], sym (append-nil s.reads));
    same = λ _. refl;
  }

  after_goes : {S T : Type 0} (s : State) (r t : Control S) (f g : S → Part T) → Goes s r t → ((x : S) (u : State) → Sound u → Goes u (f x u) (g x u)) → Goes s (after r f) (after t g)
  after_goes s (Done x u) t f g h k =
      let next : Goes u (f x u) (g x u) = k x u h.sound in
      record {
        sound = next.sound;
        more = (h.more.0 ++ next.more.0, next.more.1 ∙ ap (λ l. l ++ next.more.0) h.more.1 ∙ append_assoc s.reads h.more.0 next.more.0);
        same = λ agrees. ap (λ q. after q g) (h.same (all_first (λ (p : Cell × ℕ). read B p.0 ≡ p.1) u.reads next.more.0 (subst (λ l. AgreesWith l B) next.more.1 agrees))) ∙ next.same agrees;
      }
  after_goes s (Exit halt u) t f g h k = record { sound = h.sound; more = h.more; same = λ agrees. ap (λ q. after q g) (h.same agrees) }

  caught_goes : (s : State) (r t : Control ℕ) → Sound s → Goes s r t → Goes s (attempt_of (λ _. r) s) (attempt_of (λ _. t) s)
  unfolding attempt_of
  caught_goes s (Done x u) t before h = record { sound = h.sound; more = h.more; same = λ agrees. ap (λ q. attempt_of (λ _. q) s) (h.same agrees) }
  caught_goes s (Exit (Reverts cause) u) t before h = record {
    sound = record { reads_are = h.sound.reads_are; differ = h.sound.differ; rising = before.rising };
    more = h.more;
    same = λ agrees. ap (λ q. attempt_of (λ _. q) s) (h.same agrees);
  }
  caught_goes s (Exit RunsOut u) t before h = record { sound = h.sound; more = h.more; same = λ agrees. ap (λ q. attempt_of (λ _. q) s) (h.same agrees) }

  tried_goes : (inv : ℕ) {m n : Part ℕ} → Same ℕ None m n → Same ℕ (Some inv) (attempt_of m) (attempt_of n)
  unfolding attempt_of
  tried_goes inv {m} {n} h s before = caught_goes s (m s) (n s) before (h s before)

  pub closed : parts.IsClosed A B Same
  closed = record {
    pures = λ x s h. still s _ h refl refl;
    reverts = λ cause s h. still s _ h refl refl;
    ends = λ s h. still s _ h refl refl;
    binds = λ {m = m} {n = n} {f = f} {g = g} h k s before. after_goes s (m s) (n s) f g (h s before) k;
    looks = λ h s. h s s;
    pays = pay_goes;
    reads = λ inv cell s h. after_goes s (pay inv READ s) (pay inv READ s) (λ _. read_cell A inv cell) (λ _. read_cell B inv cell) (pay_goes inv READ s h) (λ _ t k. read_goes inv cell t k);
    writes = λ inv cell value x s h. after_goes s (pay inv WRITE s) (pay inv WRITE s) (λ _. write_cell inv cell value >>= (λ _. pure x)) (λ _. write_cell inv cell value >>= (λ _. pure x)) (pay_goes inv WRITE s h)
        (λ _ t k. after_goes t (write_cell inv cell value t) (write_cell inv cell value t) (λ _. pure x) (λ _. pure x) (write_goes inv cell value t k) (λ _ u l. still u _ l refl refl));
    hears = λ inv value s h. still s _ h refl refl;
    answers = λ inv value s h. still s _ h refl refl;
    begins = λ object method args {f = f} {g = g} h s before. after_goes s (begin object method args s) (begin object method args s) f g (still s (begin object method args s) before refl refl) h;
    tries = λ inv {m = m} {n = n} h. tried_goes inv {m = m} {n = n} h;
    widens = λ h. h;
  }
