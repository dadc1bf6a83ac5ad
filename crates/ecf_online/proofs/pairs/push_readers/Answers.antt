use Rattle.std.proofs.Common.{◌≡◌, ◌<◌, ◌+◌, ◌-◌, ◌++◌, ◌∷◌, ℕ, suc, true, List, [], length, sym, ap, ◌∙◌, append_assoc, arith}
use Rattle.std.proofs.lemmas.List.{append-nil}
use Rattle.ecf_online.specs.Pairs.{pairs_to}
use Rattle.ecf_online.specs.Reads.{read_at, reads_back, stand_in}
use Rattle.ecf_online.specs.declared.watch.Read.{Read}
use Rattle.ecf_online.proofs.PairLaws.{pairs_none, pairs_to_cons}
use Rattle.ecf_online.proofs.ReadLaws.{stands_first, back_first, back_none}
use Rattle.ecf_online.proofs.pairs.push_readers.Goals as goal

-- the next of the reads that are left
next_in : (reads : List Read) (n k at : ℕ) → k < n → stand_in reads (n - k) at ≡ true → (at < length reads) × (stand_in reads (n - (k + 1)) (read_at reads at).earlier ≡ true)
next_in reads n k at h e =
    let one : n - k ≡ suc (n - (k + 1)) = omega arith in
    stands_first reads (n - (k + 1)) at (sym (ap (λ m. stand_in reads m at) one) ∙ e)

next_back : (reads : List Read) (n k at : ℕ) → k < n → reads_back reads (n - k) at ≡ (read_at reads at).inv ∷ reads_back reads (n - (k + 1)) (read_at reads at).earlier
next_back reads n k at h =
    let one : n - k ≡ suc (n - (k + 1)) = omega arith in
    ap (λ m. reads_back reads m at) one ∙ back_first reads (n - (k + 1)) at

pub bounds-reads-at : goal.bounds-reads-at
bounds-reads-at c = (next_in c.args.reads.now c.args.count c.loop-k.k c.loop-k.at c.loop-k-test.true c.loop-k.invariant.stand).0

pub loop-k-preserved : goal.loop-k-preserved
loop-k-preserved c =
    let reads = c.args.reads.now in
    let n = c.args.count in
    let k = c.loop-k.k in
    let at = c.loop-k.at in
    let j = c.args.j in
    let here = c.loop-k.pairs.items in
    let left = reads_back reads (n - (k + 1)) (read_at reads at).earlier in
    record {
      stand = (next_in reads n k at c.loop-k-test.true c.loop-k.invariant.stand).1;
      pairs = ap (λ l. l ++ pairs_to j left) c.push_pair.ensures.pairs ∙ (append_assoc here (pairs_to j ((read_at reads at).inv ∷ [])) (pairs_to j left) ∙
          (ap (λ l. here ++ l) (sym (pairs_to_cons j (read_at reads at).inv left)) ∙ (ap (λ l. here ++ pairs_to j l) (sym (next_back reads n k at c.loop-k-test.true)) ∙ c.loop-k.invariant.pairs)));
      long = (let l = c.loop-k.invariant.long in let m = c.push_pair.ensures.long in omega (arith, l, m));
      room = c.push_pair.ensures.room ∙ c.loop-k.invariant.room;
    }

pub returns-clause-pairs : goal.returns-clause-pairs
returns-clause-pairs c =
    let reads = c.args.reads.now in
    let j = c.args.j in
    let here = c.loop-k.pairs.items in
    let over : c.args.count - c.loop-k.k ≡ 0 = omega arith in
    let none : pairs_to j (reads_back reads (c.args.count - c.loop-k.k) c.loop-k.at) ≡ [] = ap (λ m. pairs_to j (reads_back reads m c.loop-k.at)) over ∙ (ap (pairs_to j) (back_none reads c.loop-k.at) ∙ pairs_none j) in
    sym (append-nil here) ∙ (ap (λ l. here ++ l) (sym none) ∙ c.loop-k.invariant.pairs)
