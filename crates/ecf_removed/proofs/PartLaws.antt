-- Single parts: a charge, a read, a write and a call add the same to the invocation in both runs.
use Rattle.std.proofs.Common.{◌≡◌, ℕ, ◌+◌, ◌-◌, ◌<◌, ◌≤◌, Bool, true, false, List, [], ◌∷◌, ◌++◌, length, Option, Some, None, refl, ap, sym, ◌∙◌, arith}
use Rattle.std.specs.Prelude.{if◌then◌else◌, nat_le, slice_get}
use Rattle.std.specs.Option.{option_map_or}
use Rattle.std.proofs.lemmas.Bool.Decides.{nat_tests}
use Rattle.std.proofs.lemmas.List.{append-nil}
use Rattle.ecf_lang.specs.declared.cell.Cell.{Cell}
use Rattle.ecf_lang.specs.declared.run.Step.{Step}
use Rattle.ecf_lang.specs.declared.run.Invocation.{Invocation}
use Rattle.ecf_lang.specs.declared.typed.Typed.{Typed}
use Rattle.ecf_lang.specs.Store.{Store, set}
use Rattle.ecf_lang.specs.Part.{State, Control, Done, Exit, RunsOut, Part, after, ◌>>=◌, ◌>>◌, pure, pay, read_cell, write_cell, note, with_change, with_charge, with_heard, with_read, value_now}
use Rattle.ecf_lang.specs.Alone.{next_answer, hear, heard_count}
use Rattle.ecf_laws.specs.Parts.{end_state}
use Rattle.ecf_verdicts.specs.Blocks.{block}
use Rattle.ecf_removed.proofs.StateLaws.{changed_same, changed_other, changed_long, block_own, block_other}
use Rattle.ecf_removed.proofs.EchoLaws as echo

-- a charge that is within what is left
abbrev pub paid : ℕ → ℕ → State → State
paid inv n s = record s { fuel = s.fuel - n; invocations = with_change (with_charge n) s.invocations inv }

abbrev pub paying : ℕ → ℕ → State → Bool → Control (Unit {0})
paying inv n s b = if b then Done tt (paid inv n s) else Exit RunsOut (record s { fuel = 0 })

pub pay_gives : (inv n : ℕ) (l : State) → n ≤ l.fuel → pay inv n l ≡ Done tt (paid inv n l)
unfolding pay
pay_gives inv n l h = let e : nat_le n l.fuel ≡ true = grind (arith, nat_tests) in ap (paying inv n l) e

-- a step of a read, and what the run has after it
abbrev reading : ℕ → Cell → State → ℕ → Control ℕ
reading inv cell s value = Done value (record s { reads = with_read s.written s.reads cell value; steps = s.steps ++ record { inv = inv; write = false; cell = cell; value = value } ∷ [] })

-- the next answer of a list of which some were heard
get_next : (xs : List ℕ) (v : ℕ) (ys : List ℕ) → slice_get (xs ++ v ∷ ys) (length xs) ≡ Some v
get_next [] v ys = refl
get_next (x ∷ xs) v ys = get_next xs v ys

pub paid_long : (i n : ℕ) (s : State) → length (paid i n s).invocations ≤ length s.invocations
paid_long i n s = omega (arith, changed_long (with_charge n) s.invocations i)

module _ (typed : Typed) where
  -- what a charge keeps
  pub keeps_paid : (i n : ℕ) (s : State) → echo.Keeps (Some i) s (paid i n s)
  keeps_paid i n s = record {
    longer = omega (arith, changed_long (with_charge n) s.invocations i);
    others = λ k below apart. changed_other (with_charge n) s.invocations i k (λ e. apart (ap Some e));
    blocks = λ k below apart. refl;
    empty = λ h k new. h k (omega (arith, new, changed_long (with_charge n) s.invocations i));
  }

  pub follows_paid : (n : ℕ) (l : State) → n ≤ l.fuel → echo.Follows typed l (paid 0 n l) [] [] n
  follows_paid n l h = record {
    fuel = omega (arith, h);
    written = refl;
    steps_more = sym (append-nil l.steps);
    hears = λ xs x. record { one = with_charge n x.one; is = changed_same (with_charge n) l.invocations 0 x.one x.is; are = x.are ∙ sym (append-nil xs) };
  }

  module _ (fields : Store) (recorded : List ℕ) (here i : ℕ) where
    pub grows_paid : (n : ℕ) (s : State) → echo.Grows typed fields recorded here i s (paid i n s) [] [] n
    grows_paid n s = record {
      one_grown = λ one is. changed_same (with_charge n) s.invocations i one is ∙ (λ j. Some (record one { answers = sym (append-nil one.answers) j; own_fuel = one.own_fuel + n }));
      steps_more = sym (append-nil (block s.steps i));
      own = tt;
    }

    paid_goes : (n : ℕ) (s : State) (b : Bool) → nat_le n s.fuel ≡ b → echo.Goes typed fields recorded here i s (paying i n s b) (pay 0 n)
    paid_goes n s true is = record {
      keeps = keeps_paid i n s;
      repeatable = echo.nothing_new typed {T = Unit {0}} s (paid i n s) tt (omega (arith, changed_long (with_charge n) s.invocations i));
      echo = record {
        steps = [];
        answers = [];
        charge = n;
        grows = grows_paid n s;
        lone = λ l r. (paid 0 n l, pay_gives 0 n l r.fuel, follows_paid n l r.fuel);
      };
    }
    paid_goes n s false is = record { keeps = record { longer = omega arith; others = λ k h a. refl; blocks = λ k h a. refl; empty = λ h. h }; repeatable = tt; echo = tt }

    pub pay_goes : (n : ℕ) → echo.Alike typed fields recorded here i (Unit {0}) (pay i n) (pay 0 n)
    unfolding pay
    pay_goes n s w e = paid_goes n s (nat_le n s.fuel) refl

    -- one more step of the invocation
    keeps_step : (s t : State) (step : Step) → step.inv ≡ i → i < length s.invocations → t.invocations ≡ s.invocations → t.steps ≡ s.steps ++ step ∷ [] → echo.Keeps (Some i) s t
    keeps_step s t step own w invocations steps =
        let long : length t.invocations ≡ length s.invocations = ap length invocations in
        record {
          longer = omega (arith, long);
          others = λ k below apart. ap (λ l. slice_get l k) invocations;
          blocks = λ k below apart. ap (λ l. block l k) steps ∙ block_other s.steps step k (λ e. apart (ap Some (sym own ∙ e)));
          empty = λ h k new. ap (λ l. block l k) steps ∙ block_other s.steps step k (λ e. let same : i ≡ k = sym own ∙ e in omega (arith, same, new, w, long)) ∙ h k (omega (arith, new, long));
        }

    grows_step : (s t : State) (write : Bool) (field key value : ℕ) → t.invocations ≡ s.invocations → t.steps ≡ s.steps ++ record { inv = i; write = write; cell = record { object = here; field = field; key = key }; value = value } ∷ [] →
        echo.Grows typed fields recorded here i s t (record { inv = i; write = write; cell = record { object = here; field = field; key = key }; value = value } ∷ []) [] 0
    grows_step s t write field key value invocations steps = record {
      one_grown = λ one is. ap (λ l. slice_get l i) invocations ∙ is ∙ (λ j. Some (record one { answers = sym (append-nil one.answers) j; own_fuel = more one.own_fuel j }));
      steps_more = ap (λ l. block l i) steps ∙ block_own s.steps (record { inv = i; write = write; cell = record { object = here; field = field; key = key }; value = value });
      own = (refl, tt);
    }
      where
        more : (n : ℕ) → n ≡ n + 0
        more n = omega arith

    pub read_goes : (store : Store) (field key : ℕ) → echo.Alike typed fields recorded here i ℕ (read_cell store i (record { object = here; field = field; key = key })) (read_cell fields 0 (record { object = here; field = field; key = key }))
    unfolding read_cell
    read_goes store field key s w e =
        let cell : Cell = record { object = here; field = field; key = key } in
        let value : ℕ = value_now store s cell in
        let t : State = record s { reads = with_read s.written s.reads cell value; steps = s.steps ++ record { inv = i; write = false; cell = cell; value = value } ∷ [] } in
        record {
          keeps = keeps_step s t (record { inv = i; write = false; cell = cell; value = value }) refl w refl refl;
          repeatable = echo.nothing_new typed s t value (omega arith);
          echo = record {
            steps = record { inv = i; write = false; cell = cell; value = value } ∷ [];
            answers = [];
            charge = 0;
            grows = grows_step s t false field key value refl refl;
            lone = λ l r. (
              record l { reads = with_read l.written l.reads cell value; steps = l.steps ++ record { inv = 0; write = false; cell = cell; value = value } ∷ [] },
              ap (reading 0 cell l) (sym (r.seen.0 refl)),
              record { fuel = omega arith; written = refl; steps_more = refl; hears = λ xs x. record { one = x.one; is = x.is; are = x.are ∙ sym (append-nil xs) } },
            );
          };
        }

    pub write_goes : (field key value : ℕ) → echo.Alike typed fields recorded here i (Unit {0}) (write_cell i (record { object = here; field = field; key = key }) value) (write_cell 0 (record { object = here; field = field; key = key }) value)
    unfolding write_cell
    write_goes field key value s w e =
        let cell : Cell = record { object = here; field = field; key = key } in
        let t : State = record s { written = set s.written cell value; steps = s.steps ++ record { inv = i; write = true; cell = cell; value = value } ∷ [] } in
        record {
          keeps = keeps_step s t (record { inv = i; write = true; cell = cell; value = value }) refl w refl refl;
          repeatable = echo.nothing_new typed {T = Unit {0}} s t tt (omega arith);
          echo = record {
            steps = record { inv = i; write = true; cell = cell; value = value } ∷ [];
            answers = [];
            charge = 0;
            grows = grows_step s t true field key value refl refl;
            lone = λ l r. (
              record l { written = set l.written cell value; steps = l.steps ++ record { inv = 0; write = true; cell = cell; value = value } ∷ [] },
              refl,
              record { fuel = omega arith; written = refl; steps_more = refl; hears = λ xs x. record { one = x.one; is = x.is; are = x.are ∙ sym (append-nil xs) } },
            );
          };
        }

    -- a call that opened an invocation, or a try, and then what is heard of it
    keeps_heard : (v : ℕ) (s u : State) → echo.Keeps None s u → echo.Keeps (Some i) s (record u { invocations = with_change (with_heard v) u.invocations i })
    keeps_heard v s u h = record {
      longer = omega (arith, h.longer, changed_long (with_heard v) u.invocations i);
      others = λ k below apart. changed_other (with_heard v) u.invocations i k (λ e. apart (ap Some e)) ∙ h.others k below (λ e. cc);
      blocks = λ k below apart. h.blocks k below (λ e. cc);
      empty = λ e k new. h.empty e k (omega (arith, new, changed_long (with_heard v) u.invocations i));
    }

    lone_hears : (v : ℕ) (l : State) (before later : List ℕ) → echo.Heard typed l before → recorded ≡ before ++ v ∷ later → next_answer recorded l ≡ Done v (record l { invocations = with_change (with_heard v) l.invocations 0 })
    lone_hears v l before later h next =
        let far : heard_count l ≡ length before = ap (λ (o : Option Invocation). option_map_or (λ one. length one.answers) o 0) h.is ∙ ap length h.are in
        let is : slice_get recorded (heard_count l) ≡ Some v = ap (λ n. slice_get recorded n) far ∙ ap (λ m. slice_get m (length before)) next ∙ get_next before v later in
        ap (λ o. hear o l) is

    heard_at : (s : State) (r : Control ℕ) → i < length s.invocations → echo.Keeps None s (end_state r) → echo.AllAreRepeatable typed s r → echo.Goes typed fields recorded here i s (after r (λ v. note (with_heard v) i >> pure v)) (next_answer recorded)
    heard_at s (Exit halt u) w keeps repeatable = record { keeps = echo.keeps_more (Some i) s u keeps; repeatable = tt; echo = tt }
    heard_at s (Done v u) w keeps repeatable =
        let same : slice_get u.invocations i ≡ slice_get s.invocations i = keeps.others i w (λ e. cc) in
        record {
          keeps = keeps_heard v s u keeps;
          repeatable = λ k new one is stands. repeatable k new one (sym (changed_other (with_heard v) u.invocations i k (λ e. omega (arith, w, new, e))) ∙ is) stands;
          echo = record {
            steps = [];
            answers = v ∷ [];
            charge = 0;
            grows = record {
              one_grown = λ one is. changed_same (with_heard v) u.invocations i one (same ∙ is) ∙ (λ j. Some (record one { answers = one.answers ++ v ∷ []; own_fuel = more one.own_fuel j }));
              steps_more = keeps.blocks i w (λ e. cc) ∙ sym (append-nil (block s.steps i));
              own = tt;
            };
            lone = λ l r. (
              record l { invocations = with_change (with_heard v) l.invocations 0 },
              lone_hears v l r.before r.later r.heard_before r.next,
              record {
                fuel = omega arith;
                written = refl;
                steps_more = sym (append-nil l.steps);
                hears = λ xs x. record { one = with_heard v x.one; is = changed_same (with_heard v) l.invocations 0 x.one x.is; are = ap (λ m. m ++ v ∷ []) x.are };
              },
            );
          };
        }
      where
        more : (n : ℕ) → n ≡ n + 0
        more n = omega arith

    pub call_goes : (part : Part ℕ) → echo.Anew typed part → echo.Alike typed fields recorded here i ℕ (part >>= (λ v. note (with_heard v) i >> pure v)) (next_answer recorded)
    call_goes part h s w e = let r = h s e in heard_at s (part s) w r.0 r.1
