-- How the words on a sink and on a source join over calls in a row. A proof in any crate may cite what stands here.
use Rattle.std.specs.Prelude.{ℕ, ◌≡◌, List, [], ◌++◌, take, drop, Option, None, Some, refl}
use Rattle.std.proofs.Common.{sym, ap, ◌∙◌, append_assoc, append-nil, take-append-drop}
use Rattle.ecf_edge.specs.Sink.{appended, Grew, GrewByPrefix}
use Rattle.ecf_edge.specs.Source.{prepended, Gave}

-- ---- what a sink holds

pub appended-nil : (held : Option (List ℕ)) → appended held [] ≡ held
appended-nil None = refl
appended-nil (Some bytes) = ap Some (append-nil bytes)

pub appended-append : (held : Option (List ℕ)) (s t : List ℕ) → appended held (s ++ t) ≡ appended (appended held s) t
appended-append None s t = refl
appended-append (Some bytes) s t = ap Some (sym (append_assoc bytes s t))

pub Grew-nil : (held : Option (List ℕ)) → Grew held [] held
Grew-nil held = sym (appended-nil held)

-- one text and then another
pub Grew-append : (a b c : Option (List ℕ)) (s t : List ℕ) → Grew a s b → Grew b t c → Grew a (s ++ t) c
Grew-append a b c s t p q = q ∙ ap (λ held. appended held t) p ∙ sym (appended-append a s t)

-- a whole text is a first part of it, with more behind it or not
pub GrewByPrefix-whole : (a b : Option (List ℕ)) (s t : List ℕ) → Grew a s b → GrewByPrefix a (s ++ t) b
GrewByPrefix-whole a b s t p = record { written = s; rest = t; whole = refl; grew = p }

-- nothing is a first part of any text
pub GrewByPrefix-none : (a b : Option (List ℕ)) (t : List ℕ) → b ≡ a → GrewByPrefix a t b
GrewByPrefix-none a b t p = record { written = []; rest = t; whole = refl; grew = p ∙ sym (appended-nil a) }

-- a first part of a text is one of a longer text
pub GrewByPrefix-longer : (a b : Option (List ℕ)) (s t : List ℕ) → GrewByPrefix a s b → GrewByPrefix a (s ++ t) b
GrewByPrefix-longer a b s t p = record {
  written = p.written;
  rest = p.rest ++ t;
  whole = ap (λ text. text ++ t) p.whole ∙ append_assoc p.written p.rest t;
  grew = p.grew;
}

-- a whole text and then a first part of another
pub GrewByPrefix-append : (a b c : Option (List ℕ)) (s t : List ℕ) → Grew a s b → GrewByPrefix b t c → GrewByPrefix a (s ++ t) c
GrewByPrefix-append a b c s t p q = record {
  written = s ++ q.written;
  rest = q.rest;
  whole = ap (λ text. s ++ text) q.whole ∙ sym (append_assoc s q.written q.rest);
  grew = Grew-append a b c s q.written p q.grew;
}

-- the first n bytes of a text are a first part of it
pub GrewByPrefix-take : (a b : Option (List ℕ)) (n : ℕ) (text : List ℕ) → Grew a (take n text) b → GrewByPrefix a text b
GrewByPrefix-take a b n text p = record { written = take n text; rest = drop n text; whole = sym (take-append-drop n text); grew = p }

-- ---- what a source has left

pub prepended-nil : (left : Option (List ℕ)) → prepended [] left ≡ left
prepended-nil None = refl
prepended-nil (Some bytes) = refl

pub prepended-append : (s t : List ℕ) (left : Option (List ℕ)) → prepended (s ++ t) left ≡ prepended s (prepended t left)
prepended-append s t None = refl
prepended-append s t (Some bytes) = ap Some (append_assoc s t bytes)

pub Gave-nil : (left : Option (List ℕ)) → Gave left [] left
Gave-nil left = sym (prepended-nil left)

-- one piece and then another
pub Gave-append : (a b c : Option (List ℕ)) (s t : List ℕ) → Gave a s b → Gave b t c → Gave a (s ++ t) c
Gave-append a b c s t p q = p ∙ ap (λ left. prepended s left) q ∙ sym (prepended-append s t c)
