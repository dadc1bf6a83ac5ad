-- A run among its rounds: each round adds its receipts, and what came of the last one, of its tail or of a fault is what came of the run.
use Rattle.std.proofs.Common.{◌≡◌, ◌<◌, ◌≤◌, ◌+◌, ◌-◌, ◌*◌, ◌++◌, ℕ, Bool, true, false, List, [], Option, None, Ok, Err, length, refl, ap, sym, subst, ◌∙◌, arith, append-nil, length-append, inl, inr}
use Rattle.std.specs.Prelude.{◌⊎◌, not, take}
use Rattle.std.specs.BTreeMap.{BTreeMap}
use Rattle.ecf_edge.specs.Chains.{Grew-append, GrewByPrefix-whole, GrewByPrefix-longer, GrewByPrefix-append, GrewByPrefix-none}
use Rattle.ecf_edge.specs.Count.{counted_up}
use Rattle.ecf_edge.specs.Sink.{Grew, GrewByPrefix, faults_after_write}
use Rattle.ecf_edge.specs.Source.{GaveSome}
use Rattle.ecf_edge.specs.declared.sink.WriteFault.{WriteFault}
use Rattle.ecf_edge.specs.declared.sink.WriteFault.TheVariants as write
use Rattle.ecf_lang.specs.declared.limits.TheConstants.{MAX_LINE_BYTES, MAX_ROUND, MAX_STREAM_BYTES, MAX_TRANSACTIONS}
use Rattle.ecf_lang.specs.declared.receipt.Stop.{Stop}
use Rattle.ecf_lang.specs.declared.tx.Tx.{Tx}
use Rattle.ecf_lang.specs.declared.typed.Typed.{Typed}
use Rattle.ecf_receipts.specs.Numbers.{CountsEntries}
use Rattle.ecf_stream.specs.declared.stream_reader.TheConstants.{READ_BYTES}
use Rattle.ecf_stream.specs.StreamState.{StreamState, first_state, held_of, place_of, with_part, Reads, IsPart}
use Rattle.ecf_texts.specs.Entries.{text_of_entries}
use Rattle.ecf_texts.specs.Journal.{head_text}
use Rattle.ecf_host.specs.declared.rounds.Run.{Run}
use Rattle.ecf_host.specs.declared.rounds.RoundEnd.{RoundEnd}
use Rattle.ecf_host.specs.Rounds.{receipts_text, further_text, rest_text, just, FillRounds, HasReadRounds, IsRoundCut, IsTailCut, IsCut, IsBegunOf}
use Rattle.ecf_host.specs.Rounds.{IsCut as cut}
use Rattle.ecf_host.specs.Run.{IsInOrder, IsReady, IsPutTo, IsRoundRead, IsRoundDone, IsRoundBegun, IsRoundLost, HasRound, IsJournalDone, IsEndBegun, HasRun}
use Rattle.ecf_host.specs.Serial.{entries_in_order}
use Rattle.ecf_host.specs.Stream.{IsStream}
use Rattle.ecf_host.specs.World.{SinkState, SourceState}
use Rattle.ecf_host.proofs.StreamLaws.{IsReading, starts, read_rounds, rounds_read, goes_on, has_ended, still_reading, is_full, is_read, lines}
use Rattle.ecf_host.proofs.TextLaws.{text_grows, counted_before}

-- a run among its rounds, from the source and the sink before it
pub record IsAmong (typed : Typed) (before now : SourceState) (out out' : SinkState) (run : Run) : Type 0 where
  pub ready : IsReady typed run
  pub reading : IsReading typed before now run.reader run.book.setup.txs
  pub full : FillRounds run.book.setup.txs
  pub wrote : Grew out.held (receipts_text typed run.book.setup.txs) out'.held
  pub faults : out'.faults ≡ out.faults

-- its last round was read, run and written
pub record IsOver (typed : Typed) (before now : SourceState) (out out' : SinkState) (run : Run) (stop : Option Stop) : Type 0 where
  pub stream : IsStream typed before now (just run.book.setup.txs stop)
  pub in_order : IsInOrder typed run.book
  pub wrote : Grew out.held (receipts_text typed run.book.setup.txs) out'.held
  pub faults : out'.faults ≡ out.faults

-- a whole text, behind which nothing stands
grew_part : (held held' : Option (List ℕ)) (text : List ℕ) → Grew held text held' → GrewByPrefix held text held'
grew_part held held' text grew = subst (λ t. GrewByPrefix held t held') (append-nil text) (GrewByPrefix-whole held held' text [] grew)

-- ---- before the first round

no_receipts : (typed : Typed) → receipts_text typed [] ≡ head_text 2
no_receipts typed = append-nil (head_text 2)

none_fill : FillRounds []
none_fill = (0, refl)

module _ (typed : Typed) (source : SourceState) (out : SinkState) where
  -- memory ran out before anything was read
  begun_with : (held' : Option (List ℕ)) → GrewByPrefix out.held (head_text 2) held' → IsBegunOf typed source source out.held held'
  unfolding starts
  begun_with held' part = record {
    txs = [];
    lines = [];
    behind = [];
    full = none_fill;
    read = rounds_read typed source source (first_state false 0) [] (starts typed source);
    out = subst (λ t. GrewByPrefix out.held t held') (sym (no_receipts typed)) part;
  }

  pub none_begun : HasRun typed source source out out (Err write.NoMemory)
  none_begun = (inl (begun_with out.held (GrewByPrefix-none out.held out.held (head_text 2) refl)), refl)

  pub head_cut : (out' : SinkState) (fault : WriteFault) → IsPutTo out out' (head_text 2) (Err fault) → HasRun typed source source out out' (Err fault)
  head_cut out' write.Failed put = (cut.in_head refl put.part, put.counted)
  head_cut out' write.NoMemory put = (inl (begun_with out'.held put.part), put.counted)

  pub among_first : (out' : SinkState) (run : Run) → IsReady typed run → run.reader ≡ first_state false 0 → run.book.setup.txs ≡ [] → IsPutTo out out' (head_text 2) (Ok tt) → IsAmong typed source source out out' run
  among_first out' run ready first none put = record {
    ready = ready;
    reading = subst (λ r. IsReading typed source source r run.book.setup.txs) (sym first) (subst (IsReading typed source source (first_state false 0)) (sym none) (starts typed source));
    full = subst FillRounds (sym none) none_fill;
    wrote = subst (λ txs. Grew out.held (receipts_text typed txs) out'.held) (sym none) (subst (λ t. Grew out.held t out'.held) (sym (no_receipts typed)) put.all);
    faults = put.counted;
  }

-- ---- a round

one_more_round : (rounds : ℕ) (txs latest : List Tx) → length txs ≡ rounds * MAX_ROUND → length latest ≡ MAX_ROUND → length (txs ++ latest) ≡ (rounds + 1) * MAX_ROUND
one_more_round rounds txs latest h k = let both = length-append txs latest in omega (arith, both, h, k)

module _ (typed : Typed) (before mid after : SourceState) (out now : SinkState) (old : Run) (among : IsAmong typed before mid out now old) where
  abbrev earlier : List Tx
  earlier = old.book.setup.txs

  module _ (new : StreamState) (latest : List Tx) (end : RoundEnd) (read : IsRoundRead typed old.reader new mid after latest end) where
    pub more_read : end.ended ≡ false → IsReading typed before after new (earlier ++ latest)
    more_read is = goes_on typed before mid after old.reader new earlier latest end among.reading among.ready.going among.ready.controls read is

    pub all_read : end.ended ≡ true → IsStream typed before after (just (earlier ++ latest) end.stop)
    all_read is = has_ended typed before mid after old.reader new earlier latest end among.reading among.ready.going among.ready.controls read is

    more_full : end.ended ≡ false → FillRounds (earlier ++ latest)
    more_full is = (among.full.0 + 1, one_more_round among.full.0 earlier latest among.full.1 (is_full typed before mid after old.reader new earlier latest end among.reading among.ready.going among.ready.controls read is))

    -- of the receipts a first part was written
    begun_text : (held' : Option (List ℕ)) → GrewByPrefix now.held (further_text typed earlier latest) held' → GrewByPrefix out.held (receipts_text typed (earlier ++ latest)) held'
    begun_text held' part = subst (λ t. GrewByPrefix out.held t held') (sym (text_grows typed earlier latest)) (GrewByPrefix-append out.held now.held held' (receipts_text typed earlier) (further_text typed earlier latest) among.wrote part)

    begun_by : (held' : Option (List ℕ)) → GrewByPrefix now.held (further_text typed earlier latest) held' → (test : Bool) → end.ended ≡ test → IsBegunOf typed before after out.held held' ⊎ IsEndBegun typed before after out.held held'
    begun_by held' part true is = inr (record {
      txs = earlier ++ latest;
      stop = end.stop;
      stream = all_read is;
      wrote = GrewByPrefix-longer out.held held' (receipts_text typed (earlier ++ latest)) (rest_text typed (just (earlier ++ latest) end.stop)) (begun_text held' part);
    })
    begun_by held' part false is = (let r = more_read is in inl (record {
      txs = earlier ++ latest;
      lines = r.lines;
      behind = held_of new;
      full = more_full is;
      read = rounds_read typed before after new (earlier ++ latest) r;
      out = begun_text held' part;
    }))

    pub cut_short : (held' : Option (List ℕ)) → GrewByPrefix now.held (further_text typed earlier latest) held' → IsRoundCut typed before after out.held held'
    cut_short held' part = record {
      earlier = earlier;
      latest = latest;
      lines = lines typed before mid after old.reader new earlier latest end among.reading among.ready.going among.ready.controls read;
      behind = held_of new;
      full = among.full;
      few = read.part.few;
      read = is_read typed before mid after old.reader new earlier latest end among.reading among.ready.going among.ready.controls read;
      little = read.little;
      out = record { between = now.held; first = among.wrote; part = part };
    }

  lost_begun : (held' : Option (List ℕ)) → IsRoundLost mid after now.held held' → IsBegunOf typed before after out.held held'
  lost_begun held' lost = record {
    txs = earlier;
    lines = among.reading.lines;
    behind = held_of old.reader ++ lost.gave.0;
    full = among.full;
    read = read_rounds typed before mid after old.reader earlier among.reading lost.gave.0 lost.gave.1 lost.no_fault;
    out = grew_part out.held held' (receipts_text typed earlier) (subst (λ held. Grew out.held (receipts_text typed earlier) held) (sym lost.stands) among.wrote);
  }

  -- a round wasn't written to its end
  pub round_cut : (new : Run) (out' : SinkState) (fault : WriteFault) → HasRound typed old new mid after now out' (Err fault) → HasRun typed before after out out' (Err fault)
  round_cut new out' write.Failed h = (cut.in_round (cut_short new.reader h.0.latest h.0.end h.0.read out'.held h.0.wrote), h.1 ∙ ap counted_up among.faults)
  round_cut new out' write.NoMemory (inl h, k) = (begun_by new.reader h.latest h.end h.read out'.held h.wrote h.end.ended refl, k ∙ among.faults)
  round_cut new out' write.NoMemory (inr h, k) = (inl (lost_begun out'.held h), k ∙ among.faults)

  module _ (new : Run) (out' : SinkState) (end : RoundEnd) (done : IsRoundDone typed old new mid after now.held out'.held end) (faults : out'.faults ≡ now.faults) where
    wrote_all : Grew out.held (receipts_text typed new.book.setup.txs) out'.held
    wrote_all = subst (λ txs. Grew out.held (receipts_text typed txs) out'.held) (sym done.txs)
        (subst (λ t. Grew out.held t out'.held) (sym (text_grows typed earlier done.latest)) (Grew-append out.held now.held out'.held (receipts_text typed earlier) (further_text typed earlier done.latest) among.wrote done.wrote))

    -- the run goes on
    pub among_more : end.ended ≡ false → IsAmong typed before after out out' new
    among_more is = record {
      ready = record {
        going = still_reading typed before mid after old.reader new.reader earlier done.latest end among.reading among.ready.going among.ready.controls done.read is;
        controls = done.read.controls ∙ among.ready.controls;
        as_many = (let some = among.ready.as_many in let more = done.read.counts in let both = length-append earlier done.latest in let all : length new.book.setup.txs ≡ length (earlier ++ done.latest) = ap length done.txs in omega (arith, some, more, both, all));
        in_order = done.in_order;
        counted = done.counted;
      };
      reading = subst (IsReading typed before after new.reader) (sym done.txs) (more_read new.reader done.latest end done.read is);
      full = subst FillRounds (sym done.txs) (more_full new.reader done.latest end done.read is);
      wrote = wrote_all;
      faults = faults ∙ among.faults;
    }

    pub fewer_left : end.ended ≡ false → MAX_TRANSACTIONS - new.reader.txs < MAX_TRANSACTIONS - old.reader.txs
    fewer_left is =
        let full : length done.latest ≡ MAX_ROUND = is_full typed before mid after old.reader new.reader earlier done.latest end among.reading among.ready.going among.ready.controls done.read is in
        let count = done.read.counts in
        let few = done.read.few in
        omega (arith, full, count, few)

    -- it was the last round
    pub is_over : end.ended ≡ true → IsOver typed before after out out' new end.stop
    is_over is = record {
      stream = subst (λ txs. IsStream typed before after (just txs end.stop)) (sym done.txs) (all_read new.reader done.latest end done.read is);
      in_order = done.in_order;
      wrote = wrote_all;
      faults = faults ∙ among.faults;
    }

-- ---- the tail

module _ (typed : Typed) (before after : SourceState) (out now out' : SinkState) (run : Run) (stop : Option Stop) (over : IsOver typed before after out now run stop) where
  abbrev txs : List Tx
  txs = run.book.setup.txs

  pub tail_done : IsPutTo now out' (rest_text typed (just txs stop)) (Ok tt) → HasRun typed before after out out' (Ok stop)
  tail_done put = (
    record {
      txs = txs;
      stream = over.stream;
      wrote = Grew-append out.held now.held out'.held (receipts_text typed txs) (rest_text typed (just txs stop)) over.wrote put.all;
    },
    put.counted ∙ over.faults,
  )

  pub tail_cut : (fault : WriteFault) → IsPutTo now out' (rest_text typed (just txs stop)) (Err fault) → HasRun typed before after out out' (Err fault)
  tail_cut write.Failed put = (
    cut.in_tail (record {
      said = just txs stop;
      stream = over.stream;
      out = record { between = now.held; first = over.wrote; part = put.part };
    }),
    put.counted ∙ ap counted_up over.faults,
  )
  tail_cut write.NoMemory put = (
    inr (record {
      txs = txs;
      stop = stop;
      stream = over.stream;
      wrote = GrewByPrefix-append out.held now.held out'.held (receipts_text typed txs) (rest_text typed (just txs stop)) over.wrote put.part;
    }),
    put.counted ∙ over.faults,
  )

-- ---- the calls of a round

module _ (typed : Typed) (old new : StreamState) (before after : SourceState) (latest : List Tx) (count : ℕ) (end : RoundEnd) (off : Option ℕ) (none : off ≡ None) (many : length latest ≡ count) where
  -- what the reader answers
  pub round_is_read : Reads typed old new before.left after.left before.faults after.faults (with_part latest old.txs off) (not end.ended) → IsPart MAX_ROUND count end.ended end.stop off new.stage →
      new.controls ≡ old.controls → new.txs ≡ old.txs + count → new.txs ≤ MAX_TRANSACTIONS → length (held_of new) ≤ READ_BYTES + MAX_LINE_BYTES → (place_of new).bytes ≤ MAX_STREAM_BYTES →
      IsRoundRead typed old new before after latest end
  round_is_read reads part controls counts few little within = record {
    reads = subst (λ o. Reads typed old new before.left after.left before.faults after.faults (with_part latest old.txs o) (not end.ended)) none reads;
    part = subst (λ o. IsPart MAX_ROUND (length latest) end.ended end.stop o new.stage) none (subst (λ n. IsPart MAX_ROUND n end.ended end.stop off new.stage) (sym many) part);
    controls = controls;
    counts = counts ∙ ap (λ n. old.txs + n) (sym many);
    few = few;
    little = little;
    within = within;
  }

-- the receipts before the round's were counted
pub counted_first : (typed : Typed) (earlier latest txs : List Tx) (from : ℕ) (numbers : BTreeMap ℕ ℕ) → txs ≡ earlier ++ latest → from ≡ length earlier → CountsEntries earlier (entries_in_order typed earlier) numbers →
    CountsEntries txs (take from (entries_in_order typed txs)) numbers
counted_first typed earlier latest txs from numbers is first h =
    subst (λ n. CountsEntries txs (take n (entries_in_order typed txs)) numbers) (sym first)
    (subst (λ ts. CountsEntries ts (take (length earlier) (entries_in_order typed ts)) numbers) (sym is) (counted_before typed earlier latest numbers h))

module _ (typed : Typed) (old new : Run) (before after : SourceState) (out out' : SinkState) (latest : List Tx) (end : RoundEnd) (read : IsRoundRead typed old.reader new.reader before after latest end) where
  -- nothing of its receipts was written
  pub round_unprinted : HasRound typed old new before after out out (Err write.NoMemory)
  round_unprinted = (inl (record { latest = latest; end = end; read = read; wrote = GrewByPrefix-none out.held out.held (further_text typed old.book.setup.txs latest) refl }), refl)

  module _ (from : ℕ) (is : new.book.setup.txs ≡ old.book.setup.txs ++ latest) (first : from ≡ length old.book.setup.txs) where
    text_is : text_of_entries typed new.book.setup.txs (entries_in_order typed new.book.setup.txs) from ≡ further_text typed old.book.setup.txs latest
    text_is =
        ap (λ txs. text_of_entries typed txs (entries_in_order typed txs) from) is
        ∙ ap (text_of_entries typed (old.book.setup.txs ++ latest) (entries_in_order typed (old.book.setup.txs ++ latest))) first

    pub round_unwritten : (fault : WriteFault) → IsPutTo out out' (text_of_entries typed new.book.setup.txs (entries_in_order typed new.book.setup.txs) from) (Err fault) → HasRound typed old new before after out out' (Err fault)
    round_unwritten write.Failed put = (record { latest = latest; end = end; read = read; wrote = subst (λ t. GrewByPrefix out.held t out'.held) text_is put.part }, put.counted)
    round_unwritten write.NoMemory put = (inl (record { latest = latest; end = end; read = read; wrote = subst (λ t. GrewByPrefix out.held t out'.held) text_is put.part }), put.counted)

    pub round_written : IsInOrder typed new.book → CountsEntries new.book.setup.txs (entries_in_order typed new.book.setup.txs) new.numbers.counts →
        IsPutTo out out' (text_of_entries typed new.book.setup.txs (entries_in_order typed new.book.setup.txs) from) (Ok tt) → HasRound typed old new before after out out' (Ok end)
    round_written in_order counted put = (
      record {
        latest = latest;
        read = read;
        txs = is;
        in_order = in_order;
        counted = counted;
        wrote = subst (λ t. Grew out.held t out'.held) text_is put.all;
      },
      put.counted,
    )
