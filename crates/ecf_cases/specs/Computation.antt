-- A whole run computed by the kernel, from a value that shows how the contract's bodies are built.
use Rattle.std.proofs.Common.{◌≡◌, ℕ, zero, suc, true, false, List, [], ◌∷◌, Option, Some, None, refl, ap, ◌∙◌}
use Rattle.std.specs.Prelude.{◌==◌, if◌then◌else◌, nat_lt, length, find}
use Rattle.ecf_lang.specs.declared.limits.TheConstants.{MAX_FRAMES, MAX_INVOCATIONS}
use Rattle.ecf_lang.specs.declared.run.Invocation.{Invocation}
use Rattle.ecf_lang.specs.declared.run.Cause.TheVariants.{NoMethod, Depth, Calls}
use Rattle.ecf_lang.specs.declared.typed.Typed.{Typed}
use Rattle.ecf_lang.specs.declared.typed.TypedObject.{TypedObject}
use Rattle.ecf_lang.specs.declared.typed.TypedMethod.{TypedMethod}
use Rattle.ecf_lang.specs.declared.tx.Tx.{Tx}
use Rattle.ecf_lang.specs.declared.tx.TxCall.{TxCall}
use Rattle.ecf_lang.specs.Store.{Store}
use Rattle.ecf_lang.specs.Fits.{method_at}
use Rattle.ecf_lang.specs.Part.{Part, ◌>>=◌, ◌>>◌, pure, revert, note, with_answer, begin}
use Rattle.ecf_lang.specs.Meaning.{Frame, Action, block_of, flow_answer, locals_of, body_of, Ways, frame_of, invoke, one_deeper, ways, calls_of, initial_state, RunResult, result_of, run}
use Rattle.ecf_lang.specs.Alone.{Lone, lone_of, lone_frame, inside, alone}
use Rattle.ecf_cases.specs.Evaluation.{Block, block_does, block_does_is, forms}

-- methods, and how their bodies are built
pub data Methods : List TypedMethod → Type 0 where
  no_method : Methods []
  methods : {m : TypedMethod} {ms : List TypedMethod} → Block m.body → Methods ms → Methods (m ∷ ms)

-- objects, and how their methods are built
pub data Objects : List TypedObject → Type 0 where
  no_object : Objects []
  objects : {o : TypedObject} {os : List TypedObject} → Methods o.methods → Objects os → Objects (o ∷ os)

-- a method, and what its body does
abbrev pub Method : Type 0
Method = TypedMethod × (Store → Frame → Action)

-- a method and the same with what its body does, or neither
data Pairs : Option TypedMethod → Option Method → Type 0 where
  neither : Pairs None None
  both : (m : TypedMethod) (d : Store → Frame → Action) → ((store : Store) (frame : Frame) → block_of store frame m.body ≡ d store frame) → Pairs (Some m) (Some (m, d))

abbrev method_by_name : {ms : List TypedMethod} → Methods ms → ℕ → Option Method
method_by_name no_method name = None
method_by_name (methods {m} b ms) name = if m.name == name then Some (m, λ store frame. block_does store frame b) else method_by_name ms name

abbrev method_of_object : {os : List TypedObject} → Objects os → ℕ → ℕ → Option Method
method_of_object no_object n name = None
method_of_object (objects ms os) zero name = method_by_name ms name
method_of_object (objects ms os) (suc n) name = method_of_object os n name

by_name_pairs : {ms : List TypedMethod} (x : Methods ms) (name : ℕ) → Pairs (find (λ m. m.name == name) ms) (method_by_name x name)
by_name_pairs no_method name = neither
by_name_pairs (methods {m} {ms} b x) name =
    elim (m.name == name) as (λ t. Pairs (if t then Some m else find (λ m. m.name == name) ms) (if t then Some (m, λ store frame. block_does store frame b) else method_by_name x name)) [
      | true ↦ both m (λ store frame. block_does store frame b) (λ store frame. block_does_is store frame b)
      | false ↦ by_name_pairs x name
    ]

abbrev method_in : List TypedObject → ℕ → ℕ → Option TypedMethod
method_in os n name = method_at (record { objects = os; names = []; signatures = [] }) n name

of_object_pairs : {os : List TypedObject} (x : Objects os) (n name : ℕ) → Pairs (method_in os n name) (method_of_object x n name)
of_object_pairs no_object n name = neither
of_object_pairs (objects ms os) zero name = by_name_pairs ms name
of_object_pairs (objects ms os) (suc n) name = of_object_pairs os n name

abbrev body_does : Store → Frame → Option Method → List ℕ → Part ℕ
body_does store frame None args = revert NoMethod
body_does store frame (Some method) args = method.1 store frame (locals_of method.0 args) >>= (λ flow. pure (flow_answer flow))

body_is : (store : Store) (frame : Frame) (args : List ℕ) {a : Option TypedMethod} {b : Option Method} → Pairs a b → body_of store frame a args ≡ body_does store frame b args
body_is store frame args neither = refl
body_is store frame args (both m d is) = λ i. is store frame i (locals_of m args) >>= (λ flow. pure (flow_answer flow))

module _ (typed : Typed) (x : Objects typed.objects) (store : Store) where
  abbrev invoke_does : Ways → ℕ → Option Method → ℕ → List ℕ → Part ℕ
  invoke_does w to None name args = revert NoMethod
  invoke_does w to (Some method) name args =
      begin to name args >>= (λ inv. body_does store (frame_of typed store w to inv) (Some method) args >>= (λ v. note (with_answer v) inv >> pure v))

  invoke_is : (w : Ways) (to name : ℕ) (args : List ℕ) {a : Option TypedMethod} {b : Option Method} → Pairs a b → invoke typed store w to a name args ≡ invoke_does w to b name args
  invoke_is w to name args neither = refl
  invoke_is w to name args (both m d is) =
      λ i. begin to name args >>= (λ inv. body_is store (frame_of typed store w to inv) args (both m d is) i >>= (λ v. note (with_answer v) inv >> pure v))

  abbrev deeper_does : Ways → Ways
  deeper_does w = record {
    within = λ here inv name args. body_does store (frame_of typed store w here inv) (method_of_object x here name) args;
    anew = λ to name args state. (if nat_lt (length state.invocations) MAX_INVOCATIONS then invoke_does w to (method_of_object x to name) name args else revert Calls) state;
  }

  deeper_is : (w : Ways) → one_deeper typed store w ≡ deeper_does w
  deeper_is w = λ i. record {
    within = λ here inv name args. body_is store (frame_of typed store w here inv) args (of_object_pairs x here name) i;
    anew = λ to name args state. (if nat_lt (length state.invocations) MAX_INVOCATIONS then invoke_is w to name args (of_object_pairs x to name) i else revert Calls) state;
  }

  abbrev ways_do : ℕ → Ways
  ways_do zero = record { within = λ here inv name args. revert Depth; anew = λ to name args. revert Depth }
  ways_do (suc room) = deeper_does (ways_do room)

  ways_are : (room : ℕ) → ways typed store room ≡ ways_do room
  unfolding ways
  ways_are zero = refl
  ways_are (suc room) = deeper_is (ways typed store room) ∙ ap deeper_does (ways_are room)

  abbrev calls_do : Ways → List TxCall → Part ℕ
  calls_do w [] = pure 0
  calls_do w (call ∷ []) = w.anew call.object call.method call.args
  calls_do w (call ∷ next ∷ calls) = w.anew call.object call.method call.args >> calls_do w (next ∷ calls)

  calls_are : (calls : List TxCall) → calls_of typed store calls ≡ calls_do (ways typed store MAX_FRAMES) calls
  calls_are [] = refl
  calls_are (call ∷ []) = refl
  calls_are (call ∷ next ∷ calls) = λ i. (ways typed store MAX_FRAMES).anew call.object call.method call.args >> calls_are (next ∷ calls) i

  abbrev run_does : Tx → RunResult
  run_does tx = result_of store tx.fuel (calls_do (ways_do MAX_FRAMES) tx.calls (initial_state tx.fuel))

  -- a run is what its forms do
  pub run_is : (tx : Tx) → run typed store tx ≡ run_does tx
  unfolding run
  run_is tx = λ i. result_of store tx.fuel ((calls_are tx.calls ∙ ap (λ w. calls_do w tx.calls) (ways_are MAX_FRAMES)) i (initial_state tx.fuel))

module _ (typed : Typed) (x : Objects typed.objects) (fields : Store) (invocation : Invocation) where
  abbrev inside_does : ℕ → ℕ → List ℕ → Part ℕ
  inside_does zero name args = revert Depth
  inside_does (suc room) name args =
      body_does fields (lone_frame typed fields invocation (inside_does room)) (method_of_object x invocation.object name) args

  inside_is : (room : ℕ) → inside typed fields invocation room ≡ inside_does room
  unfolding inside
  inside_is zero = refl
  inside_is (suc room) =
      (λ i name args. body_is fields (lone_frame typed fields invocation (inside typed fields invocation room)) args (of_object_pairs x invocation.object name) i)
      ∙ (λ i name args. body_does fields (lone_frame typed fields invocation (inside_is room i)) (method_of_object x invocation.object name) args)

  abbrev alone_does : ℕ → Lone
  alone_does inv =
      lone_of inv (result_of fields invocation.own_fuel (
      (begin invocation.object invocation.method invocation.args >>= (λ n. inside_does MAX_FRAMES invocation.method invocation.args)) (initial_state invocation.own_fuel)))

  -- a run of an invocation alone is what its forms do
  pub alone_is : (inv : ℕ) → alone typed inv invocation fields ≡ alone_does inv
  unfolding alone
  alone_is inv =
      λ i. lone_of inv (result_of fields invocation.own_fuel (
      (begin invocation.object invocation.method invocation.args >>= (λ n. inside_is MAX_FRAMES i invocation.method invocation.args)) (initial_state invocation.own_fuel)))

-- all the ways in which a contract is built, for `search`
pub ruleset contracts = (forms, no_method, methods, no_object, objects)
