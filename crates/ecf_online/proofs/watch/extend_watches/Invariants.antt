use Rattle.std.proofs.Common.{◌≡◌, ℕ, ◌-◌, ◌≤◌, max, get_or, vec_len, vec_capacity}
use Rattle.std.specs.List.{sum_by}
use Rattle.ecf_online.specs.Reads.{blank}
use Rattle.ecf_online.specs.declared.watch.Watch.{Watch}
use Rattle.ecf_online.proofs.watch.extend_watches.Given as goal

abbrev pub invariant-watches : goal.invariant-watches
invariant-watches l = record {
  same : (k : ℕ) → get_or l.watches.items k blank ≡ get_or l.initial.watches.items k blank;
  readers : sum_by (λ (w : Watch). w.readers) l.watches.items ≡ sum_by (λ (w : Watch). w.readers) l.initial.watches.items;
  from : vec_len l.initial.watches ≤ vec_len l.watches;
  upto : vec_len l.watches ≤ max l.most (vec_len l.initial.watches);
  room : vec_capacity l.watches ≡ vec_capacity l.initial.watches;
}

abbrev pub decreases-watches : goal.decreases-watches
decreases-watches l = l.most - vec_len l.watches
