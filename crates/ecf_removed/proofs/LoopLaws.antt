-- Loops. Both runs have a number of turns; since each turn is charged, the invocation's own charge bounds the turns that
-- the run alone makes.
use Rattle.std.proofs.Common.{◌≡◌, ℕ, zero, suc, ◌+◌, ◌<◌, ◌≤◌, Bool, true, false, List, [], ◌++◌, length, Some, refl, ap, ◌∙◌, arith}
use Rattle.std.specs.Prelude.{nat_le}
use Rattle.ecf_lang.specs.declared.costs.TheConstants.{TURN, READ, WRITE}
use Rattle.ecf_lang.specs.declared.run.Step.{Step}
use Rattle.ecf_lang.specs.declared.typed.Typed.{Typed}
use Rattle.ecf_lang.specs.declared.typed.TypedExpr.{TypedExpr}
use Rattle.ecf_lang.specs.Store.{Store}
use Rattle.ecf_lang.specs.Part.{State, Control, Done, Exit, Part, after, ◌>>=◌, ◌>>◌, pure, pay, read_cell, write_cell}
use Rattle.ecf_lang.specs.Meaning.{Opens, Frame, Flow, Continues, Returns, Action, go_on, value_of, at_zero, turns}
use Rattle.ecf_laws.specs.Parts.{end_state}
use Rattle.ecf_removed.proofs.EchoLaws as echo
use Rattle.ecf_laws.specs.FrameLaws as frames
use Rattle.ecf_removed.proofs.PartLaws as parts

module _ (typed : Typed) (fields : Store) (recorded : List ℕ) (here i : ℕ) where
  -- where the part gave this value, the part alone, with more turns than was charged, gives it too
  pub record EchoedBy (b : ℕ) (s t : State) {T : Type 0} (x : T) (n : ℕ → Part T) : Type 0 where
    pub steps : List Step
    pub answers : List ℕ
    pub charge : ℕ
    pub grows : echo.Grows typed fields recorded here i s t steps answers charge
    pub lone : (k : ℕ) → charge < b + k → (l : State) → echo.Ready typed fields recorded here i l steps answers charge → (e : State) × (n k l ≡ Done x e) × echo.Follows typed l e steps answers charge

  abbrev pub EchoBy : {T : Type 0} → ℕ → State → Control T → (ℕ → Part T) → Type 0
  EchoBy b s (Done x t) n = EchoedBy b s t x n
  EchoBy b s (Exit halt t) n = Unit {0}

  pub record GoesBy (b : ℕ) (s : State) {T : Type 0} (r : Control T) (n : ℕ → Part T) : Type 0 where
    pub keeps : echo.Keeps (Some i) s (end_state r)
    pub repeatable : echo.AllAreRepeatable typed s r
    pub echo_by : EchoBy b s r n

  abbrev pub AlikeBy : ℕ → (T : Type 0) → Part T → (ℕ → Part T) → Type 0
  AlikeBy b T m n = (s : State) → i < length s.invocations → echo.Empty s → GoesBy b s (m s) n

  abbrev Goes : State → {T : Type 0} → Control T → Part T → Type 0
  Goes s r n = echo.Goes typed fields recorded here i s r n

  any_echo : {T : Type 0} (b : ℕ) (s : State) (r : Control T) (n : Part T) → echo.Echo typed fields recorded here i s r n → EchoBy b s r (λ k. n)
  any_echo b s (Done x t) n h = record { steps = h.steps; answers = h.answers; charge = h.charge; grows = h.grows; lone = λ k _ l r. h.lone l r }
  any_echo b s (Exit halt t) n h = tt

  -- a part without turns has enough of them
  any_by : {T : Type 0} (b : ℕ) (s : State) (r : Control T) (n : Part T) → Goes s r n → GoesBy b s r (λ k. n)
  any_by b s r n h = record { keeps = h.keeps; repeatable = h.repeatable; echo_by = any_echo b s r n h.echo }

  echo_then : {S T : Type 0} (b : ℕ) (s u : State) (x : S) (r : Control T) (n : Part S) (g : ℕ → S → Part T) → echo.Echoed typed fields recorded here i s u x n → EchoBy b u r (λ k. g k x) → EchoBy b s r (λ k. n >>= g k)
  echo_then b s u x (Exit halt t) n g h k = tt
  echo_then b s u x (Done y t) n g h k = record {
    steps = h.steps ++ k.steps;
    answers = h.answers ++ k.answers;
    charge = h.charge + k.charge;
    grows = echo.grows_then typed fields recorded here i s u t h.steps k.steps h.answers k.answers h.charge k.charge h.grows k.grows;
    lone = λ turn enough l r.
        let first = h.lone l (echo.ready_first typed fields recorded here i l h.steps k.steps h.answers k.answers h.charge k.charge r) in
        let last = k.lone turn (omega (arith, enough)) first.0 (echo.ready_last typed fields recorded here i l first.0 h.steps k.steps h.answers k.answers h.charge k.charge r first.2) in
        (last.0, ap (λ q. after q (g turn)) first.1 ∙ last.1, echo.follows_then typed l first.0 last.0 h.steps k.steps h.answers k.answers h.charge k.charge first.2 last.2);
  }

  after_by : {S T : Type 0} (b : ℕ) (s : State) (r : Control S) (n : Part S) (f : S → Part T) (g : ℕ → S → Part T) → i < length s.invocations → echo.Empty s → Goes s r n → ((x : S) → AlikeBy b T (f x) (λ k. g k x)) → GoesBy b s (after r f) (λ k. n >>= g k)
  after_by b s (Done x u) n f g w e h k =
      let next : GoesBy b u (f x u) (λ turn. g turn x) = k x u (echo.within_later typed fields recorded here i s u h.keeps w) (h.keeps.empty e) in
      record {
        keeps = echo.keeps_then (Some i) s u (end_state (f x u)) h.keeps next.keeps;
        repeatable = echo.repeatable_then typed (Some i) s u x (f x u) w h.repeatable next.keeps next.repeatable;
        echo_by = echo_then b s u x (f x u) n g h.echo next.echo_by;
      }
  after_by b s (Exit halt u) n f g w e h k = record { keeps = h.keeps; repeatable = tt; echo_by = tt }

  -- the charge of a turn gives one turn more
  paid_echo : {T : Type 0} (s : State) (r : Control T) (n : ℕ → Part T) → EchoBy 0 (parts.paid i TURN s) r n → EchoBy 1 s r (λ k. pay 0 TURN >> n k)
  paid_echo s (Exit halt t) n h = tt
  paid_echo s (Done y t) n h = record {
    steps = h.steps;
    answers = h.answers;
    charge = TURN + h.charge;
    grows = echo.grows_then typed fields recorded here i s (parts.paid i TURN s) t [] h.steps [] h.answers TURN h.charge (parts.grows_paid typed fields recorded here i TURN s) h.grows;
    lone = λ turn enough l r.
        let some : TURN ≤ l.fuel = omega (arith, r.fuel) in
        let last = h.lone turn (omega (arith, enough)) (parts.paid 0 TURN l) (echo.ready_last typed fields recorded here i l (parts.paid 0 TURN l) [] h.steps [] h.answers TURN h.charge r (parts.follows_paid typed TURN l some)) in
        (last.0, ap (λ q. after q (λ _. n turn)) (parts.pay_gives 0 TURN l some) ∙ last.1, echo.follows_then typed l (parts.paid 0 TURN l) last.0 [] h.steps [] h.answers TURN h.charge (parts.follows_paid typed TURN l some) last.2);
  }

  paid_by : {T : Type 0} (s : State) (b : Bool) (m : Part T) (n : ℕ → Part T) → i < length s.invocations → echo.Empty s → AlikeBy 0 T m n → GoesBy 1 s (after (parts.paying i TURN s b) (λ _. m)) (λ k. pay 0 TURN >> n k)
  paid_by s true m n w e h =
      let keeps : echo.Keeps (Some i) s (parts.paid i TURN s) = parts.keeps_paid typed i TURN s in
      let next : GoesBy 0 (parts.paid i TURN s) (m (parts.paid i TURN s)) n = h (parts.paid i TURN s) (echo.within_later typed fields recorded here i s (parts.paid i TURN s) keeps w) (keeps.empty e) in
      record {
        keeps = echo.keeps_then (Some i) s (parts.paid i TURN s) (end_state (m (parts.paid i TURN s))) keeps next.keeps;
        repeatable = echo.repeatable_then typed {S = Unit {0}} (Some i) s (parts.paid i TURN s) tt (m (parts.paid i TURN s)) w (echo.nothing_new typed {T = Unit {0}} s (parts.paid i TURN s) tt (parts.paid_long i TURN s)) next.keeps next.repeatable;
        echo_by = paid_echo s (m (parts.paid i TURN s)) n next.echo_by;
      }
  paid_by s false m n w e h = record { keeps = record { longer = omega arith; others = λ k h a. refl; blocks = λ k h a. refl; empty = λ h. h }; repeatable = tt; echo_by = tt }

  pay_by : {T : Type 0} (m : Part T) (n : ℕ → Part T) → AlikeBy 0 T m n → AlikeBy 1 T (pay i TURN >> m) (λ k. pay 0 TURN >> n k)
  unfolding pay
  pay_by m n h s w e = paid_by s (nat_le TURN s.fuel) m n w e h

  -- one turn more is enough for one turn less
  down_echo : {T : Type 0} (s : State) (r : Control T) (n : ℕ → Part T) → EchoBy 1 s r (λ k. n (suc k)) → EchoBy 0 s r n
  down_echo s (Exit halt t) n h = tt
  down_echo s (Done y t) n h = record { steps = h.steps; answers = h.answers; charge = h.charge; grows = h.grows; lone = by }
    where
      by : (k : ℕ) → h.charge < 0 + k → (l : State) → echo.Ready typed fields recorded here i l h.steps h.answers h.charge → (e : State) × (n k l ≡ Done y e) × echo.Follows typed l e h.steps h.answers h.charge
      by zero enough l r = absurd (omega (arith, enough))
      by (suc k) enough l r = h.lone k (omega (arith, enough)) l r

  down_by : {T : Type 0} (s : State) (r : Control T) (n : ℕ → Part T) → GoesBy 1 s r (λ k. n (suc k)) → GoesBy 0 s r n
  down_by s r n h = record { keeps = h.keeps; repeatable = h.repeatable; echo_by = down_echo s r n h.echo_by }

  zero_by : {T : Type 0} (b x : ℕ) (k : Part T) (l : Part T) (m : Part T) (n : ℕ → Part T) → AlikeBy b T k (λ _. l) → AlikeBy b T m n → AlikeBy b T (at_zero x k m) (λ turn. at_zero x l (n turn))
  zero_by b zero k l m n h j = h
  zero_by b (suc x) k l m n h j = j

  module _ (store : Store) (p q : Opens) (cond : TypedExpr) (d e : Action) where
    abbrev f : Frame
    f = record { here = here; inv = i; opens = p }

    abbrev g : Frame
    g = record { here = here; inv = 0; opens = q }

    module _ (conds : (locals : List ℕ) → echo.Alike typed fields recorded here i ℕ (value_of store f locals cond) (value_of fields g locals cond))
        (bodies : (locals : List ℕ) → echo.Alike typed fields recorded here i Flow (d locals) (e locals)) where
      on_by : (n : ℕ) → ((locals : List ℕ) → AlikeBy 0 Flow (turns store f n cond d locals) (λ k. turns fields g k cond e locals)) → (flow : Flow) → AlikeBy 0 Flow (go_on flow (turns store f n cond d)) (λ k. go_on flow (turns fields g k cond e))
      on_by n h (Continues locals) = h locals
      on_by n h (Returns v) = λ s w empty. any_by 0 s (Done (Returns v) s) (pure (Returns v)) (echo.pure_goes typed fields recorded here i (Returns v) s)

      turns_by : (n : ℕ) (locals : List ℕ) → AlikeBy 0 Flow (turns store f n cond d locals) (λ k. turns fields g k cond e locals)
      unfolding turns
      turns_by zero locals = λ s w empty. record { keeps = record { longer = omega arith; others = λ k h a. refl; blocks = λ k h a. refl; empty = λ h. h }; repeatable = tt; echo_by = tt }
      turns_by (suc n) locals = λ s w empty.
          down_by s (turns store f (suc n) cond d locals s) (λ k. turns fields g k cond e locals)
          (after_by 1 s (value_of store f locals cond s) (value_of fields g locals cond)
          (λ x. at_zero x (pure (Continues locals)) (pay i TURN >> (d locals >>= (λ flow. go_on flow (turns store f n cond d)))))
          (λ k x. at_zero x (pure (Continues locals)) (pay 0 TURN >> (e locals >>= (λ flow. go_on flow (turns fields g k cond e)))))
          w empty (conds locals s w empty)
          (λ x. zero_by 1 x (pure (Continues locals)) (pure (Continues locals)) (pay i TURN >> (d locals >>= (λ flow. go_on flow (turns store f n cond d)))) (λ k. pay 0 TURN >> (e locals >>= (λ flow. go_on flow (turns fields g k cond e))))
          (λ u v y. any_by 1 u (Done (Continues locals) u) (pure (Continues locals)) (echo.pure_goes typed fields recorded here i (Continues locals) u))
          (pay_by (d locals >>= (λ flow. go_on flow (turns store f n cond d))) (λ k. e locals >>= (λ flow. go_on flow (turns fields g k cond e)))
          (λ u v y. after_by 0 u (d locals u) (e locals) (λ flow. go_on flow (turns store f n cond d)) (λ k flow. go_on flow (turns fields g k cond e)) v y (bodies locals u v y) (on_by n (turns_by n))))))

      own_echo : (s : State) (r : Control Flow) (locals : List ℕ) → EchoBy 0 s r (λ k. turns fields g k cond e locals) → echo.Echo typed fields recorded here i s r (λ l. turns fields g (suc l.fuel) cond e locals l)
      own_echo s (Exit halt t) locals h = tt
      own_echo s (Done y t) locals h = record { steps = h.steps; answers = h.answers; charge = h.charge; grows = h.grows; lone = λ l r. h.lone (suc l.fuel) (omega (arith, r.fuel)) l r }

      pub loop_goes : (locals : List ℕ) → echo.Alike typed fields recorded here i Flow (λ s. turns store f (suc s.fuel) cond d locals s) (λ l. turns fields g (suc l.fuel) cond e locals l)
      loop_goes locals s w empty =
          let h : GoesBy 0 s (turns store f (suc s.fuel) cond d locals s) (λ k. turns fields g k cond e locals) = turns_by (suc s.fuel) locals s w empty in
          record { keeps = h.keeps; repeatable = h.repeatable; echo = own_echo s (turns store f (suc s.fuel) cond d locals s) locals h.echo_by }

  pub closed : (store : Store) → frames.IsClosed store fields here i 0 (echo.Alike typed fields recorded here i)
  closed store = record {
    pures = λ x s w e. echo.pure_goes typed fields recorded here i x s;
    reverts = λ cause s w e. echo.revert_goes typed fields recorded here i cause s;
    binds = λ {m = m} {n = n} {f = f} {g = g} h k s w e. echo.after_goes typed fields recorded here i s (m s) n f g w e (h s w e) k;
    pays = parts.pay_goes typed fields recorded here i;
    reads = λ field key s w e. echo.after_goes typed fields recorded here i s (pay i READ s) (pay 0 READ) (λ _. read_cell store i (record { object = here; field = field; key = key })) (λ _. read_cell fields 0 (record { object = here; field = field; key = key })) w e
        (parts.pay_goes typed fields recorded here i READ s w e) (λ _. parts.read_goes typed fields recorded here i store field key);
    writes = λ field key value x s w e. echo.after_goes typed fields recorded here i s (pay i WRITE s) (pay 0 WRITE) (λ _. write_cell i (record { object = here; field = field; key = key }) value >>= (λ _. pure x)) (λ _. write_cell 0 (record { object = here; field = field; key = key }) value >>= (λ _. pure x)) w e
        (parts.pay_goes typed fields recorded here i WRITE s w e) (λ _ t v f. echo.after_goes typed fields recorded here i t (write_cell i (record { object = here; field = field; key = key }) value t) (write_cell 0 (record { object = here; field = field; key = key }) value) (λ _. pure x) (λ _. pure x) v f
        (parts.write_goes typed fields recorded here i field key value t v f) (λ _ u g h. echo.pure_goes typed fields recorded here i x u));
    loops = λ p q cond d e conds bodies locals. loop_goes store p q cond d e conds bodies locals;
  }
