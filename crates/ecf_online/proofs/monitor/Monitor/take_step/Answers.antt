use Rattle.std.proofs.Common.{◌≡◌, ◌<◌, ◌≤◌, ◌+◌, ◌∷◌, ◌++◌, ℕ, Bool, true, List, if◌then◌else◌, arith, max, sym, ◌∙◌, refl, ap, subst, length, get_or, slice_set, take}
use Rattle.std.proofs.lemmas.List.{get_or_default}
use Rattle.std.proofs.Math.Seq.{take-append_seam}
use Rattle.ecf_graph.specs.Pairs.{joins}
use Rattle.ecf_graph.specs.Rows.{is_in_row}
use Rattle.ecf_conflict.specs.Numbering.{cell_number, IsPutIn}
use Rattle.ecf_online.specs.Closure.{IsClosure, IsReadyPair}
use Rattle.ecf_online.specs.Pairs.{step_pairs}
use Rattle.ecf_online.specs.Reads.{blank, readers_of, reads_after, stand_in, watch_after}
use Rattle.ecf_online.specs.Sound.{IsSound}
use Rattle.ecf_online.specs.Watched.{IsWatched, first_with}
use Rattle.ecf_online.specs.declared.watch.Read.{Read}
use Rattle.ecf_online.specs.declared.watch.Watch.{Watch}
use Rattle.ecf_online.proofs.ClosureLaws.{closure_alike}
use Rattle.ecf_online.proofs.PairLaws.{new_ready}
use Rattle.ecf_online.proofs.ReadLaws.{back_ready}
use Rattle.ecf_online.proofs.SoundLaws.{room_wide, sound_next}
use Rattle.ecf_online.proofs.WatchLaws.{watched_next}
use Rattle.ecf_online.proofs.monitor.Monitor.take_step.Goals as goal

pub add_pairs-requires-clause-ready : goal.add_pairs-requires-clause-ready
add_pairs-requires-clause-ready c m d from below =
    let s = c.args.step.now in
    let old = c.args.self.now in
    let ws = c.extend_watches.new.watches.items in
    let k = c.number_in_room-cell.result in
    let keys = c.number_in_room-cell.new.cells.keys in
    let reads = old.reads.items in
    let rows = old.rows.items in
    let pairs = old.pairs.items in
    let put : IsPutIn old.cells.keys keys s.cell = c.number_in_room-cell.ensures.put in
    let place : k ≡ cell_number old.cells.keys s.cell = c.number_in_room-cell.ensures.number in
    let taken : k < length keys = rw place put.place in
    let long : length ws ≡ max (length keys) (length old.watches.items) = grind arith in
    let at_k : k < length ws = omega (arith, taken, long) in
    let w : Watch = get_or ws k blank in
    let is_w : c.index.result.now ≡ w = c.index.ensures ∙ get_or_default ws k c.index.result.now blank at_k in
    let news = step_pairs w.writer (readers_of reads w) s.inv s.write in
    let pairs_is : c.as_slice-2.result.now ≡ pairs ++ news = c.as_slice-2.ensures.value ∙ (c.push_step.ensures.pairs ∙
    (ap (λ (r : List Read). pairs ++ step_pairs c.index.result.now.writer (readers_of r c.index.result.now) s.inv s.write) c.as_slice.ensures.value ∙
    ap (λ (x : Watch). pairs ++ step_pairs x.writer (readers_of reads x) s.inv s.write) is_w)) in
    let size : c.len-from.result ≡ length pairs = grind arith in
    let stand : stand_in reads w.readers w.last ≡ true = ap (λ (x : Watch). stand_in reads x.readers x.last) (c.extend_watches.ensures.same k) ∙ old.sound.in_log k in
    let first : length pairs ≤ m = omega (arith, from, size) in
    subst (λ (l : List (ℕ × ℕ)). IsReadyPair rows (get_or l m d)) (sym pairs_is)
    (new_ready rows pairs w.writer (readers_of reads w) s.inv s.write c.requires.ready (λ i e. old.sound.writers k i (ap (λ (x : Watch). x.writer) (sym (c.extend_watches.ensures.same k)) ∙ e))
    (back_ready rows reads w.readers w.last old.sound.readers stand) m d first (subst (λ (l : List (ℕ × ℕ)). m < length l) pairs_is below))

pub add_pairs-requires-clause-room : goal.add_pairs-requires-clause-room
add_pairs-requires-clause-room c = room_wide c.args.self.now.rows.items c.args.self.now.seen c.args.self.now.reaching c.args.self.now.width c.args.self.now.sound.wide c.requires.room.reaching

pub add_pairs-requires-clause-reaching : goal.add_pairs-requires-clause-reaching
add_pairs-requires-clause-reaching c = c.args.self.now.reaching_are

pub invariant_of-self : goal.invariant_of-self
invariant_of-self c =
    let s = c.args.step.now in
    let old = c.args.self.now in
    let ws = c.extend_watches.new.watches.items in
    let k = c.number_in_room-cell.result in
    let keys = c.number_in_room-cell.new.cells.keys in
    let reads = old.reads.items in
    let rows' = c.add_pairs.new.rows.items in
    let pairs' = c.push_step.new.pairs.items in
    let seen' = c.see_step.new.seen in
    let put : IsPutIn old.cells.keys keys s.cell = c.number_in_room-cell.ensures.put in
    let place : k ≡ cell_number old.cells.keys s.cell = c.number_in_room-cell.ensures.number in
    let taken : k < length keys = rw place put.place in
    let long : length ws ≡ max (length keys) (length old.watches.items) = grind arith in
    let at_k : k < length ws = omega (arith, taken, long) in
    let w : Watch = get_or ws k blank in
    let is_w : c.index.result.now ≡ w = c.index.ensures ∙ get_or_default ws k c.index.result.now blank at_k in
    let is_marked : c.index_mut.result.now ≡ w = c.index_mut.ensures.value ∙ get_or_default ws k c.index_mut.result.now blank at_k in
    let watch_is : c.mark_step.new.watch ≡ watch_after w (length reads) s.inv s.write = c.mark_step.ensures.watch ∙ ap (λ (x : Watch). watch_after x (length reads) s.inv s.write) is_marked in
    let reads_is : c.mark_step.new.reads.items ≡ reads_after reads w s.inv s.write = c.mark_step.ensures.reads ∙ ap (λ (x : Watch). reads_after reads x s.inv s.write) is_marked in
    let more_here : length pairs' ≤ length old.pairs.items + 1 + (if s.write then c.index.result.now.readers else 0) = (let m = c.push_step.ensures.long in grind arith) in
    let more : length pairs' ≤ length old.pairs.items + 1 + (if s.write then w.readers else 0) = subst (λ (x : Watch). length pairs' ≤ length old.pairs.items + 1 + (if s.write then x.readers else 0)) is_w more_here in
    let next = sound_next old.cells.keys keys old.watches.items ws reads old.rows.items rows' old.pairs.items pairs' old.seen seen' old.width old.count k s.inv s.write
    old.sound c.requires.few put.longer c.number_in_room-cell.ensures.few c.extend_watches.ensures.same long c.extend_watches.ensures.readers at_k more c.add_pairs.ensures.words c.add_pairs.ensures.shaped c.see_step.ensures.words c.requires.ready in
    record {
      sound = subst (λ (x : Watch). IsSound keys (slice_set ws k x) c.mark_step.new.reads.items rows' pairs' seen' old.width (old.count + 1)) (sym watch_is)
          (subst (λ (r : List Read). IsSound keys (slice_set ws k (watch_after w (length reads) s.inv s.write)) r rows' pairs' seen' old.width (old.count + 1)) (sym reads_is) next);
      reaching_are = c.add_pairs.ensures.reaching;
    }

pub returns-clause-watched : goal.returns-clause-watched
returns-clause-watched c e h =
    let s = c.args.step.now in
    let old = c.args.self.now in
    let ws = c.extend_watches.new.watches.items in
    let k = c.number_in_room-cell.result in
    let keys = c.number_in_room-cell.new.cells.keys in
    let reads = old.reads.items in
    let rows = old.rows.items in
    let rows' = c.add_pairs.new.rows.items in
    let pairs = old.pairs.items in
    let put : IsPutIn old.cells.keys keys s.cell = c.number_in_room-cell.ensures.put in
    let place : k ≡ cell_number old.cells.keys s.cell = c.number_in_room-cell.ensures.number in
    let taken : k < length keys = rw place put.place in
    let long : length ws ≡ max (length keys) (length old.watches.items) = grind arith in
    let at_k : k < length ws = omega (arith, taken, long) in
    let w : Watch = get_or ws k blank in
    let is_w : c.index.result.now ≡ w = c.index.ensures ∙ get_or_default ws k c.index.result.now blank at_k in
    let is_marked : c.index_mut.result.now ≡ w = c.index_mut.ensures.value ∙ get_or_default ws k c.index_mut.result.now blank at_k in
    let watch_is : c.mark_step.new.watch ≡ watch_after w (length reads) s.inv s.write = c.mark_step.ensures.watch ∙ ap (λ (x : Watch). watch_after x (length reads) s.inv s.write) is_marked in
    let reads_is : c.mark_step.new.reads.items ≡ reads_after reads w s.inv s.write = c.mark_step.ensures.reads ∙ ap (λ (x : Watch). reads_after reads x s.inv s.write) is_marked in
    let news = step_pairs w.writer (readers_of reads w) s.inv s.write in
    let added : c.push_step.new.pairs.items ≡ pairs ++ news = c.push_step.ensures.pairs ∙
    (ap (λ (r : List Read). pairs ++ step_pairs c.index.result.now.writer (readers_of r c.index.result.now) s.inv s.write) c.as_slice.ensures.value ∙
    ap (λ (x : Watch). pairs ++ step_pairs x.writer (readers_of reads x) s.inv s.write) is_w) in
    let pairs_is : c.as_slice-2.result.now ≡ pairs ++ news = c.as_slice-2.ensures.value ∙ added in
    let size : c.len-from.result ≡ length pairs = grind arith in
    let front : take c.len-from.result c.as_slice-2.result.now ≡ pairs = ap (λ (l : List (ℕ × ℕ)). take c.len-from.result l) pairs_is ∙ (ap (λ n. take n (pairs ++ news)) size ∙ take-append_seam pairs news) in
    let before : IsClosure (joins pairs) rows = closure_alike _ _ rows (λ a b. sym (h.pairs_are a b)) h.closure in
    let closure : IsClosure (joins (pairs ++ news)) rows' = subst (λ (l : List (ℕ × ℕ)). IsClosure (joins l) rows') pairs_is (c.add_pairs.ensures.closure (subst (λ (l : List (ℕ × ℕ)). IsClosure (joins l) rows) (sym front) before)) in
    let first : c.first_after-self.result ≡ first_with old.first (is_in_row rows' s.inv s.inv) (old.count + 1) = c.first_after-self.ensures ∙ ap (λ (b : Bool). first_with old.first b (old.count + 1)) (c.row_contains-closes.ensures ∙ (rw c.as_slice-3.ensures.value refl)) in
    let next = watched_next e s old.cells.keys keys old.watches.items ws reads rows rows' pairs old.count k old.first c.first_after-self.result h put place old.sound.watches_few c.extend_watches.ensures.same at_k old.sound.in_log closure first in
    let watch_after_it = watch_after w (length reads) s.inv s.write in
    subst (λ (x : Watch). IsWatched (s ∷ e) keys (slice_set ws k x) c.mark_step.new.reads.items rows' c.push_step.new.pairs.items (old.count + 1) c.first_after-self.result) (sym watch_is)
    (subst (λ (r : List Read). IsWatched (s ∷ e) keys (slice_set ws k watch_after_it) r rows' c.push_step.new.pairs.items (old.count + 1) c.first_after-self.result) (sym reads_is)
    (subst (λ (l : List (ℕ × ℕ)). IsWatched (s ∷ e) keys (slice_set ws k watch_after_it) (reads_after reads w s.inv s.write) rows' l (old.count + 1) c.first_after-self.result) (sym added) next))
