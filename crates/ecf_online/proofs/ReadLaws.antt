-- The log of reads, with one read more.
use Rattle.std.proofs.Common.{◌≡◌, ℕ, zero, suc, ◌+◌, ◌<◌, true, List, [], ◌∷◌, ◌++◌, length, refl, ap, ◌∙◌, arith, add-one}
use Rattle.std.proofs.lemmas.Bool.{and_parts, and_from, ltb-true, lt-ltb}
use Rattle.std.proofs.lemmas.List.{get_or_append_left, length-append}
use Rattle.std.proofs.Math.Seq.{get_or-append_seam}
use Rattle.ecf_online.specs.Closure.{IsReady}
use Rattle.ecf_online.specs.Reads.{read_at, reads_back, stand_in}
use Rattle.ecf_online.specs.declared.watch.Read.{Read}
use Rattle.ecf_online.proofs.PairLaws.{Each}

pub stands_first : (reads : List Read) (n place : ℕ) → stand_in reads (suc n) place ≡ true → (place < length reads) × (stand_in reads n (read_at reads place).earlier ≡ true)
unfolding stand_in
stands_first reads n place h = let p = and_parts _ _ h in (ltb-true place (length reads) p.0, p.1)

pub back_first : (reads : List Read) (n place : ℕ) → reads_back reads (suc n) place ≡ (read_at reads place).inv ∷ reads_back reads n (read_at reads place).earlier
unfolding reads_back
back_first reads n place = refl

pub back_none : (reads : List Read) (place : ℕ) → reads_back reads 0 place ≡ []
unfolding reads_back
back_none reads place = refl

pub stands_none : (reads : List Read) (place : ℕ) → stand_in reads 0 place ≡ true
unfolding stand_in
stands_none reads place = refl

kept_at : (reads : List Read) (r : Read) (place : ℕ) → place < length reads → read_at (reads ++ r ∷ []) place ≡ read_at reads place
kept_at reads r place h = get_or_append_left reads (r ∷ []) record { inv = 0; earlier = 0 } place h

pub stands_more : (reads : List Read) (r : Read) (n place : ℕ) → stand_in reads n place ≡ true → stand_in (reads ++ r ∷ []) n place ≡ true
unfolding stand_in
stands_more reads r zero place h = refl
stands_more reads r (suc n) place h =
    let p = stands_first reads n place h in
    let len = length-append reads (r ∷ []) in
    and_from _ _ (lt-ltb place (length (reads ++ r ∷ [])) (let l = p.0 in omega (arith, l, len)))
    (ap (λ (x : Read). stand_in (reads ++ r ∷ []) n x.earlier) (kept_at reads r place p.0) ∙ stands_more reads r n (read_at reads place).earlier p.1)

pub back_more : (reads : List Read) (r : Read) (n place : ℕ) → stand_in reads n place ≡ true → reads_back (reads ++ r ∷ []) n place ≡ reads_back reads n place
unfolding reads_back
back_more reads r zero place h = refl
back_more reads r (suc n) place h =
    let p = stands_first reads n place h in
    ap (λ (x : Read). x.inv ∷ reads_back (reads ++ r ∷ []) n x.earlier) (kept_at reads r place p.0) ∙
    ap (λ l. (read_at reads place).inv ∷ l) (back_more reads r n (read_at reads place).earlier p.1)

-- the new read, followed by those before it
pub stands_new : (reads : List Read) (r : Read) (n : ℕ) → stand_in reads n r.earlier ≡ true → stand_in (reads ++ r ∷ []) (n + 1) (length reads) ≡ true
unfolding stand_in
stands_new reads r n h =
    let len = length-append reads (r ∷ []) in
    ap (λ m. stand_in (reads ++ r ∷ []) m (length reads)) (add-one n) ∙
    and_from _ _ (lt-ltb (length reads) (length (reads ++ r ∷ [])) (omega (arith, len)))
    (ap (λ (x : Read). stand_in (reads ++ r ∷ []) n x.earlier) (get_or-append_seam reads r [] record { inv = 0; earlier = 0 }) ∙ stands_more reads r n r.earlier h)

pub back_new : (reads : List Read) (r : Read) (n : ℕ) → stand_in reads n r.earlier ≡ true → reads_back (reads ++ r ∷ []) (n + 1) (length reads) ≡ r.inv ∷ reads_back reads n r.earlier
unfolding reads_back
back_new reads r n h =
    ap (λ m. reads_back (reads ++ r ∷ []) m (length reads)) (add-one n) ∙
    (ap (λ (x : Read). x.inv ∷ reads_back (reads ++ r ∷ []) n x.earlier) (get_or-append_seam reads r [] record { inv = 0; earlier = 0 }) ∙ ap (λ l. r.inv ∷ l) (back_more reads r n r.earlier h))

-- the reads of a cell have rows with words where those of the log have
pub back_ready : (rows : List (List ℕ)) (reads : List Read) (n place : ℕ) → ((k : ℕ) → k < length reads → IsReady rows (read_at reads k).inv) → stand_in reads n place ≡ true → Each (IsReady rows) (reads_back reads n place)
unfolding reads_back
back_ready rows reads zero place f h = tt
back_ready rows reads (suc n) place f h = let p = stands_first reads n place h in (f place p.0, back_ready rows reads n (read_at reads place).earlier f p.1)
