-- Of two cuts of one text, one goes on where the other stops.
use Rattle.std.proofs.Common.{◌≡◌, ℕ, ◌+◌, ◌<◌, true, List, [], ◌∷◌, ◌++◌, length, refl, sym, ap, subst, ◌∙◌, arith, inl, inr, ◌⊎◌, append_assoc, length-append}
use Rattle.ecf_grammar.specs.Spelling.{is_blank, IsLexeme}
use Rattle.ecf_grammar.specs.Reading.{Piece, bytes_of, IsPiece, Begins, BeginsLongest, IsCut, token_at, tokens_from}
use Rattle.ecf_grammar.specs.Reading.Piece.{Blank, Comment, TokenText}
use Rattle.ecf_grammar.proofs.LexemeLaws.{same_kind, IsTokenText, token_text}

-- ---- one piece

pub piece_len : (p : Piece) → IsPiece p → 0 < length (bytes_of p)
piece_len (Blank b) h = omega arith
piece_len (Comment r) h = omega arith
piece_len (TokenText k bytes) h = let t = token_text k bytes h in omega (arith, ap length t.is)

blank_no_token : (b : ℕ) (bytes : List ℕ) → is_blank b ≡ true → IsTokenText bytes → b ∷ [] ≡ bytes → ⊥
blank_no_token b bytes h t e = let is = t.is in let other = t.no_blank in absurd cc

comment_no_token : (r bytes : List ℕ) → IsTokenText bytes → 47 ∷ 47 ∷ r ≡ bytes → ⊥
comment_no_token r bytes t e = t.no_comment r (sym e)

-- the bytes of a piece tell which it is
pub same_piece : (p q : Piece) → IsPiece p → IsPiece q → bytes_of p ≡ bytes_of q → p ≡ q
same_piece (Blank b) (Blank d) h g e = let f : b ≡ d = cc in ap (λ x. Blank x) f
same_piece (Blank b) (Comment r) h g e = absurd cc
same_piece (Blank b) (TokenText k bytes) h g e = absurd (blank_no_token b bytes h (token_text k bytes g) e)
same_piece (Comment r) (Blank b) h g e = absurd cc
same_piece (Comment r) (Comment s) h g e = let f : r ≡ s = cc in ap (λ x. Comment x) f
same_piece (Comment r) (TokenText k bytes) h g e = absurd (comment_no_token r bytes (token_text k bytes g) e)
same_piece (TokenText k bytes) (Blank b) h g e = absurd (blank_no_token b bytes g (token_text k bytes h) (sym e))
same_piece (TokenText k bytes) (Comment r) h g e = absurd (comment_no_token r bytes (token_text k bytes h) (sym e))
same_piece (TokenText k bytes) (TokenText j other) h g e =
    let at : IsLexeme j bytes = subst (λ x. IsLexeme j x) (sym e) g in
    let is : k ≡ j = same_kind k j bytes h at in cc

pub same_front : (a b x y : List ℕ) → length a ≡ length b → a ++ x ≡ b ++ y → (a ≡ b) × (x ≡ y)
same_front [] [] x y len e = (refl, e)
same_front [] (d ∷ b) x y len e = absurd (omega (arith, len))
same_front (c ∷ a) [] x y len e = absurd (omega (arith, len))
same_front (c ∷ a) (d ∷ b) x y len e =
    let short : length a ≡ length b = omega (arith, len) in
    let tail : a ++ x ≡ b ++ y = cc in
    let head : c ≡ d = cc in
    let more = same_front a b x y short tail in
    let same : a ≡ b = more.0 in
    (cc, more.1)

-- a text begins with one longest piece
pub one_longest : (text : List ℕ) (p q : Piece) (x y : List ℕ) → BeginsLongest text p x → BeginsLongest text q y → (p ≡ q) × (x ≡ y)
one_longest text p q x y h g =
    let up = g.longest p x h.begins in
    let down = h.longest q y g.begins in
    let fronts = same_front (bytes_of p) (bytes_of q) x y (omega arith) (sym h.begins.whole ∙ g.begins.whole) in
    (same_piece p q h.begins.spelled g.begins.spelled fronts.0, fronts.1)

pub none_begins : (p : Piece) (x : List ℕ) → Begins [] p x → ⊥
none_begins p x h = let some = piece_len p h.spelled in omega (arith, ap length h.whole, length-append (bytes_of p) x)

-- ---- many pieces

pub cut_then : (text : List ℕ) (ps : List Piece) (rest : List ℕ) (qs : List Piece) (end : List ℕ) → IsCut text ps rest → IsCut rest qs end → IsCut text (ps ++ qs) end
cut_then text [] rest qs end h g = subst (λ t. IsCut t qs end) (sym h) g
cut_then text (p ∷ ps) rest qs end h g = (h.0, h.1, cut_then h.0 ps rest qs end h.2 g)

-- the second cut goes on with more pieces where the first stops
pub record GoesOn (ps : List Piece) (x : List ℕ) (qs : List Piece) (y : List ℕ) : Type 0 where
  pub more : List Piece
  pub is : qs ≡ ps ++ more
  pub cut : IsCut x more y

goes_on_behind : (p : Piece) (ps : List Piece) (x : List ℕ) (qs : List Piece) (y : List ℕ) → GoesOn ps x qs y → GoesOn (p ∷ ps) x (p ∷ qs) y
goes_on_behind p ps x qs y h = record { more = h.more; is = ap (λ t. p ∷ t) h.is; cut = h.cut }

pub one_goes_on : (text : List ℕ) (ps qs : List Piece) (x y : List ℕ) → IsCut text ps x → IsCut text qs y → GoesOn ps x qs y ⊎ GoesOn qs y ps x
one_goes_on text [] qs x y h g = inl (record { more = qs; is = refl; cut = subst (λ t. IsCut t qs y) h g })
one_goes_on text (p ∷ ps) [] x y h g = inr (record { more = p ∷ ps; is = refl; cut = subst (λ t. IsCut t (p ∷ ps) x) g h })
one_goes_on text (p ∷ ps) (q ∷ qs) x y h g =
    let same = one_longest text p q h.0 g.0 h.1 g.1 in
    let cut : IsCut h.0 qs y = subst (λ t. IsCut t qs y) (sym same.1) g.2 in
    elim (one_goes_on h.0 ps qs x y h.2 cut) [
      | inl on ↦ inl (subst (λ t. GoesOn (p ∷ ps) x (t ∷ qs) y) same.0 (goes_on_behind p ps x qs y on))
      | inr on ↦ inr (subst (λ t. GoesOn (t ∷ qs) y (p ∷ ps) x) same.0 (goes_on_behind p qs y ps x on))
    ]

-- ---- the tokens among pieces

-- where pieces that stand from a place on end
abbrev pub end_of : ℕ → List Piece → ℕ
end_of at [] = at
end_of at (p ∷ ps) = end_of (at + length (bytes_of p)) ps

pub tokens_from-append : (at : ℕ) (ps qs : List Piece) → tokens_from at (ps ++ qs) ≡ tokens_from at ps ++ tokens_from (end_of at ps) qs
tokens_from-append at [] qs = refl
tokens_from-append at (p ∷ ps) qs =
    ap (λ t. token_at at p ++ t) (tokens_from-append (at + length (bytes_of p)) ps qs)
    ∙ sym (append_assoc (token_at at p) (tokens_from (at + length (bytes_of p)) ps) (tokens_from (end_of (at + length (bytes_of p)) ps) qs))

pub end_of-cut : (at : ℕ) (text : List ℕ) (ps : List Piece) (rest : List ℕ) → IsCut text ps rest → end_of at ps + length rest ≡ at + length text
end_of-cut at text [] rest h = ap (λ t. at + length t) (sym h)
end_of-cut at text (p ∷ ps) rest h =
    omega (arith, end_of-cut (at + length (bytes_of p)) h.0 ps rest h.2, ap length h.1.begins.whole, length-append (bytes_of p) h.0)
