-- The induction over a whole run. A relation of parts of runs that each way of making parts keeps holds of what any
-- form, call or transaction does on two stores.
use Rattle.std.proofs.Common.{ℕ, zero, suc, Bool, true, false, List, [], ◌∷◌, Option, Some, None}
use Rattle.std.specs.Prelude.{if◌then◌else◌, length, nat_lt}
use Rattle.ecf_lang.specs.declared.cell.Cell.{Cell}
use Rattle.ecf_lang.specs.declared.costs.TheConstants.{TURN}
use Rattle.ecf_lang.specs.declared.limits.TheConstants.{MAX_FRAMES, MAX_INVOCATIONS}
use Rattle.ecf_lang.specs.declared.run.Cause.{Cause}
use Rattle.ecf_lang.specs.declared.run.Cause.TheVariants.{NoMethod, Depth, Calls}
use Rattle.ecf_lang.specs.declared.typed.Typed.{Typed}
use Rattle.ecf_lang.specs.declared.typed.TypedMethod.{TypedMethod}
use Rattle.ecf_lang.specs.declared.typed.TypedExpr.{TypedExpr}
use Rattle.ecf_lang.specs.declared.typed.TypedCall.{TypedCall}
use Rattle.ecf_lang.specs.declared.typed.TypedStmt.{TypedStmt}
use Rattle.ecf_lang.specs.declared.typed.TypedBlock.{TypedBlock}
use Rattle.ecf_lang.specs.declared.tx.TxCall.{TxCall}
use Rattle.ecf_lang.specs.Fits.{method_at}
use Rattle.ecf_lang.specs.Store.{Store}
use Rattle.ecf_lang.specs.Part.{State, Exit, RunsOut, Part, ◌>>=◌, pure, revert, pay, read_cell, write_cell, note, with_heard, with_answer, begin, attempt_of}
use Rattle.ecf_laws.specs.FrameLaws as frames
use Rattle.ecf_lang.specs.Meaning.{Opens, Frame, Flow, Continues, Returns, Action, go_on, value_of, answer_of, stmt_of, block_of, at_zero, turns, Ways, ways, one_deeper, invoke, body_of, opens_of, calls_of}

-- the ways in which parts are made keep the relation: of a part in an invocation, or of one that is in none
pub record IsClosed (A B : Store) (R : (T : Type 0) → Option ℕ → Part T → Part T → Type 0) : Type 1 where
  pub pures : {T : Type 0} {o : Option ℕ} (x : T) → R _ o (pure x) (pure x)
  pub reverts : {T : Type 0} {o : Option ℕ} (cause : Cause) → R T o (revert cause) (revert cause)
  pub ends : {T : Type 0} {o : Option ℕ} → R T o (λ s. Exit RunsOut (record s { fuel = 0 })) (λ s. Exit RunsOut (record s { fuel = 0 }))
  pub binds : {S T : Type 0} {o : Option ℕ} {m n : Part S} {f g : S → Part T} → R _ o m n → ((x : S) → R _ o (f x) (g x)) → R _ o (m >>= f) (n >>= g)
  pub looks : {T : Type 0} {o : Option ℕ} {f g : State → Part T} → ((s : State) → R _ o (f s) (g s)) → R _ o (λ s. f s s) (λ s. g s s)
  pub pays : (inv n : ℕ) → R _ (Some inv) (pay inv n) (pay inv n)
  pub reads : (inv : ℕ) (cell : Cell) → R _ (Some inv) (frames.charged_read A inv cell) (frames.charged_read B inv cell)
  pub writes : {T : Type 0} (inv : ℕ) (cell : Cell) (value : ℕ) (x : T) → R _ (Some inv) (frames.charged_write inv cell value x) (frames.charged_write inv cell value x)
  pub hears : (inv value : ℕ) → R _ (Some inv) (note (with_heard value) inv) (note (with_heard value) inv)
  pub answers : (inv value : ℕ) → R _ (Some inv) (note (with_answer value) inv) (note (with_answer value) inv)
  pub begins : {T : Type 0} {o : Option ℕ} (object method : ℕ) (args : List ℕ) {f g : ℕ → Part T} → ((inv : ℕ) → R _ (Some inv) (f inv) (g inv)) → R _ o (begin object method args >>= f) (begin object method args >>= g)
  pub tries : (inv : ℕ) {m n : Part ℕ} → R _ None m n → R _ (Some inv) (attempt_of m) (attempt_of n)
  pub widens : {T : Type 0} {o : Option ℕ} {m n : Part T} → R _ None m n → R _ o m n

module _ (A B : Store) (R : (T : Type 0) → Option ℕ → Part T → Part T → Type 0) (closed : IsClosed A B R) where
  if_so : {T : Type 0} {o : Option ℕ} (b : Bool) {k l m n : Part T} → R _ o k l → R _ o m n → R _ o (if b then k else m) (if b then l else n)
  if_so true h i = h
  if_so false h i = i

  zero_or : {T : Type 0} {o : Option ℕ} (x : ℕ) {k l m n : Part T} → R _ o k l → R _ o m n → R _ o (at_zero x k m) (at_zero x l n)
  zero_or zero h i = h
  zero_or (suc x) h i = i

  -- what the calls in a frame of that invocation do
  abbrev pub OpensAlike : ℕ → Opens → Opens → Type 0
  OpensAlike inv a b = frames.OpensAlike (λ T. R T (Some inv)) a b

  module _ (here inv : ℕ) where
    abbrev frame : Opens → Frame
    frame opens = record { here = here; inv = inv; opens = opens }

    on_alike : (flow : Flow) (d e : Action) → ((locals : List ℕ) → R _ (Some inv) (d locals) (e locals)) → R _ (Some inv) (go_on flow d) (go_on flow e)
    on_alike (Continues locals) d e h = h locals
    on_alike (Returns v) d e h = closed.pures (Returns v)

    turns_alike : (a b : Opens) (cond : TypedExpr) (d e : Action) → ((locals : List ℕ) → R _ (Some inv) (value_of A (frame a) locals cond) (value_of B (frame b) locals cond)) → ((locals : List ℕ) → R _ (Some inv) (d locals) (e locals)) → (n : ℕ) (locals : List ℕ) → R _ (Some inv) (turns A (frame a) n cond d locals) (turns B (frame b) n cond e locals)
    unfolding turns
    turns_alike a b cond d e conds bodies zero locals = closed.ends
    turns_alike a b cond d e conds bodies (suc n) locals = closed.binds (conds locals) (λ x. zero_or x (closed.pures (Continues locals)) (closed.binds (closed.pays inv TURN) (λ _. closed.binds (bodies locals) (λ flow. on_alike flow _ _ (λ after. turns_alike a b cond d e conds bodies n after)))))

    -- the ways in which parts are made in a frame keep the relation
    in_frame : frames.IsClosed A B here inv inv (λ T. R T (Some inv))
    in_frame = record {
      pures = λ x. closed.pures x;
      reverts = λ cause. closed.reverts cause;
      binds = λ h k. closed.binds h k;
      pays = λ n. closed.pays inv n;
      reads = λ field key. closed.reads inv (record { object = here; field = field; key = key });
      writes = λ field key value x. closed.writes inv (record { object = here; field = field; key = key }) value x;
      loops = λ a b cond d e conds bodies locals. closed.looks (λ s. turns_alike a b cond d e conds bodies (suc s.fuel) locals);
    }

    module _ (a b : Opens) (opens : OpensAlike inv a b) where
      pub value_alike : (locals : List ℕ) (e : TypedExpr) → R _ (Some inv) (value_of A (frame a) locals e) (value_of B (frame b) locals e)
      value_alike = frames.value_alike A B here inv inv (λ T. R T (Some inv)) in_frame a b opens

      pub answer_alike : (locals : List ℕ) (c : TypedCall) → R _ (Some inv) (answer_of A (frame a) locals c) (answer_of B (frame b) locals c)
      answer_alike = frames.answer_alike A B here inv inv (λ T. R T (Some inv)) in_frame a b opens

      pub stmt_alike : (t : TypedStmt) (locals : List ℕ) → R _ (Some inv) (stmt_of A (frame a) t locals) (stmt_of B (frame b) t locals)
      stmt_alike = frames.stmt_alike A B here inv inv (λ T. R T (Some inv)) in_frame a b opens

      pub block_alike : (t : TypedBlock) (locals : List ℕ) → R _ (Some inv) (block_of A (frame a) t locals) (block_of B (frame b) t locals)
      block_alike = frames.block_alike A B here inv inv (λ T. R T (Some inv)) in_frame a b opens

      pub body_alike : (method : Option TypedMethod) (args : List ℕ) → R _ (Some inv) (body_of A (frame a) method args) (body_of B (frame b) method args)
      body_alike = frames.body_alike A B here inv inv (λ T. R T (Some inv)) in_frame a b opens

  -- how methods are entered
  pub record WaysAlike (v w : Ways) : Type 0 where
    pub within : (here inv name : ℕ) (args : List ℕ) → R _ (Some inv) (v.within here inv name args) (w.within here inv name args)
    pub anew : (to name : ℕ) (args : List ℕ) → R _ None (v.anew to name args) (w.anew to name args)

  pub opens_alike : (v w : Ways) → WaysAlike v w → (here inv : ℕ) → OpensAlike inv (opens_of v here inv) (opens_of w here inv)
  opens_alike v w h here inv = record {
    internal = λ name args. h.within here inv name args;
    external = λ to name args. closed.binds (closed.widens (h.anew to name args)) (λ x. closed.binds (closed.hears inv x) (λ _. closed.pures x));
    attempt = λ to name args. closed.binds (closed.tries inv (h.anew to name args)) (λ x. closed.binds (closed.hears inv x) (λ _. closed.pures x));
  }

  module _ (typed : Typed) where
    invoke_alike : (v w : Ways) → WaysAlike v w → (to : ℕ) (method : Option TypedMethod) (name : ℕ) (args : List ℕ) → R _ None (invoke typed A v to method name args) (invoke typed B w to method name args)
    invoke_alike v w h to None name args = closed.reverts NoMethod
    invoke_alike v w h to (Some method) name args = closed.begins to name args (λ inv. closed.binds (body_alike to inv (opens_of v to inv) (opens_of w to inv) (opens_alike v w h to inv) (Some method) args) (λ x. closed.binds (closed.answers inv x) (λ _. closed.pures x)))

    deeper_alike : (v w : Ways) → WaysAlike v w → WaysAlike (one_deeper typed A v) (one_deeper typed B w)
    deeper_alike v w h = record {
      within = λ here inv name args. body_alike here inv (opens_of v here inv) (opens_of w here inv) (opens_alike v w h here inv) (method_at typed here name) args;
      anew = λ to name args. closed.looks (λ s. if_so (nat_lt (length s.invocations) MAX_INVOCATIONS) (invoke_alike v w h to (method_at typed to name) name args) (closed.reverts Calls));
    }

    pub ways_alike : (room : ℕ) → WaysAlike (ways typed A room) (ways typed B room)
    unfolding ways
    ways_alike zero = record { within = λ here inv name args. closed.reverts Depth; anew = λ to name args. closed.reverts Depth }
    ways_alike (suc room) = deeper_alike (ways typed A room) (ways typed B room) (ways_alike room)

    pub calls_alike : (calls : List TxCall) → R _ None (calls_of typed A calls) (calls_of typed B calls)
    calls_alike [] = closed.pures 0
    calls_alike (call ∷ []) = (ways_alike MAX_FRAMES).anew call.object call.method call.args
    calls_alike (call ∷ next ∷ calls) = closed.binds ((ways_alike MAX_FRAMES).anew call.object call.method call.args) (λ _. calls_alike (next ∷ calls))
