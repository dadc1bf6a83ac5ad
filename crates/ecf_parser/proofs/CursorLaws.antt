-- What a cursor's steps make of the readers of single lexemes.
use Rattle.std.proofs.Common.{◌≡◌, ℕ, ◌+◌, ◌-◌, ◌<◌, true, false, cond, List, [], ◌∷◌, length, Option, Some, None, IsSome, Ok, Err, refl, sym, subst, ◌∙◌, ap, take, drop, get_or, arith}
use Rattle.std.specs.Prelude.{slice_range}
use Rattle.ecf_grammar.specs.declared.tokens.Kind.{Kind}
use Rattle.ecf_grammar.specs.declared.tokens.Kind.TheVariants as kind
use Rattle.ecf_grammar.specs.declared.tokens.Token.{Token}
use Rattle.ecf_grammar.specs.declared.tokens.Word.{Word}
use Rattle.ecf_grammar.specs.declared.tokens.Sign.{Sign}
use Rattle.ecf_lang.specs.declared.tree.Op.{Op}
use Rattle.ecf_grammar.specs.Lexemes.{NumberedLexemes, lexeme, with_numbers, lexemes_of}
use Rattle.ecf_grammar.specs.Lexemes.Lexeme.{NameOf, NumberOf, WordOf, SignOf}
use Rattle.ecf_parser.specs.Parsers.{next, number_of, behind, is_sign, is_word, kind_of, is_name, number_in, bytes_in, bytes_of, sign, word, name, number, eat_sign, eat_word, op_at, operator_read, operator}

pub ahead_len : (at : ℕ) (source : List ℕ) (tokens : List Token) → length (with_numbers at (lexemes_of source tokens)) ≡ length tokens
ahead_len at source [] = refl
ahead_len at source (t ∷ ts) = omega (arith, ahead_len (at + 1) source ts)

pub some_sign : (s : Sign) (k : Option Kind) → is_sign s k ≡ true → IsSome k
unfolding is_sign
some_sign s None h = absurd cc
some_sign s (Some k) h = refl

pub some_word : (w : Word) (k : Option Kind) → is_word w k ≡ true → IsSome k
unfolding is_word
some_word w None h = absurd cc
some_word w (Some k) h = refl

pub some_name : (k : Option Kind) → is_name k ≡ true → IsSome k
unfolding is_name
some_name None h = absurd cc
some_name (Some k) h = refl

pub some_number : (k : Option Kind) (v : ℕ) → number_in k ≡ Some v → IsSome k
unfolding number_in
some_number None v h = absurd cc
some_number (Some k) v h = refl

pub some_op : (table : Sign → Option Op) (k : Option Kind) (o : Op) → op_at table k ≡ Some o → IsSome k
some_op table None o h = absurd cc
some_op table (Some k) o h = refl

pub sign_taken : (s : Sign) (ls : NumberedLexemes) → is_sign s (next ls) ≡ true → sign s ls ≡ Ok (number_of ls, behind ls)
unfolding sign
sign_taken s ls h = ap (λ b. cond b (Ok (number_of ls, behind ls)) (Err ls)) h

pub sign_left : (s : Sign) (ls : NumberedLexemes) → is_sign s (next ls) ≡ false → sign s ls ≡ Err ls
unfolding sign
sign_left s ls h = ap (λ b. cond b (Ok (number_of ls, behind ls)) (Err ls)) h

pub word_taken : (w : Word) (ls : NumberedLexemes) → is_word w (next ls) ≡ true → word w ls ≡ Ok (number_of ls, behind ls)
unfolding word
word_taken w ls h = ap (λ b. cond b (Ok (number_of ls, behind ls)) (Err ls)) h

pub word_left : (w : Word) (ls : NumberedLexemes) → is_word w (next ls) ≡ false → word w ls ≡ Err ls
unfolding word
word_left w ls h = ap (λ b. cond b (Ok (number_of ls, behind ls)) (Err ls)) h

pub name_taken : (ls : NumberedLexemes) → is_name (next ls) ≡ true → name ls ≡ Ok ((number_of ls, bytes_of ls), behind ls)
unfolding name is_name
name_taken [] h = absurd cc
name_taken ((at, NameOf bytes) ∷ ls) h = refl
name_taken ((at, NumberOf v) ∷ ls) h = absurd cc
name_taken ((at, WordOf v) ∷ ls) h = absurd cc
name_taken ((at, SignOf v) ∷ ls) h = absurd cc

pub name_left : (ls : NumberedLexemes) → is_name (next ls) ≡ false → name ls ≡ Err ls
unfolding name is_name
name_left [] h = refl
name_left ((at, NameOf bytes) ∷ ls) h = absurd cc
name_left ((at, NumberOf v) ∷ ls) h = refl
name_left ((at, WordOf v) ∷ ls) h = refl
name_left ((at, SignOf v) ∷ ls) h = refl

pub number_taken : (ls : NumberedLexemes) (value : ℕ) → number_in (next ls) ≡ Some value → number ls ≡ Ok ((number_of ls, value), behind ls)
unfolding number number_in
number_taken [] value h = absurd cc
number_taken ((at, NumberOf v) ∷ ls) value h = let e : v ≡ value = cc in ap (λ n. Ok ((at, n), ls)) e
number_taken ((at, NameOf v) ∷ ls) value h = absurd cc
number_taken ((at, WordOf v) ∷ ls) value h = absurd cc
number_taken ((at, SignOf v) ∷ ls) value h = absurd cc

pub number_left : (ls : NumberedLexemes) → number_in (next ls) ≡ None → number ls ≡ Err ls
unfolding number number_in
number_left [] h = refl
number_left ((at, NumberOf v) ∷ ls) h = absurd cc
number_left ((at, NameOf v) ∷ ls) h = refl
number_left ((at, WordOf v) ∷ ls) h = refl
number_left ((at, SignOf v) ∷ ls) h = refl

pub sign_eaten : (s : Sign) (ls : NumberedLexemes) → is_sign s (next ls) ≡ true → eat_sign s ls ≡ Ok (true, behind ls)
unfolding eat_sign
sign_eaten s ls h = ap (λ b. cond b (Ok (true, behind ls)) (Ok (false, ls))) h

pub word_eaten : (w : Word) (ls : NumberedLexemes) → is_word w (next ls) ≡ true → eat_word w ls ≡ Ok (true, behind ls)
unfolding eat_word
word_eaten w ls h = ap (λ b. cond b (Ok (true, behind ls)) (Ok (false, ls))) h

pub op_eaten : (table : Sign → Option Op) (ls : NumberedLexemes) (o : Op) → op_at table (next ls) ≡ Some o → operator table ls ≡ Ok (Some o, behind ls)
unfolding operator
op_eaten table ls o h = ap (λ x. operator_read x ls) h

pub bytes_ahead : (k : Kind) (bytes : List ℕ) → is_name (Some (kind_of (lexeme k bytes))) ≡ true → bytes_in (lexeme k bytes) ≡ bytes
unfolding is_name
bytes_ahead kind.Name bytes h = refl
bytes_ahead (kind.Number v) bytes h = absurd cc
bytes_ahead (kind.Word v) bytes h = absurd cc
bytes_ahead (kind.Sign v) bytes h = absurd cc

pub bytes_first : (ls : NumberedLexemes) (at : ℕ) (source : List ℕ) (tokens : List Token) (d : Token) → ls ≡ with_numbers at (lexemes_of source tokens) → 0 < length tokens → is_name (next ls) ≡ true → take ((get_or tokens 0 d).end - (get_or tokens 0 d).start) (drop (get_or tokens 0 d).start source) ≡ bytes_of ls
bytes_first ls at source [] d e some h = absurd (omega arith)
bytes_first ls at source (t ∷ ts) d e some h =
    let here : is_name (next (with_numbers at (lexemes_of source (t ∷ ts)))) ≡ true = subst (λ x. is_name (next x) ≡ true) e h in
    sym (bytes_ahead t.kind (slice_range source t.start t.end) here) ∙ ap bytes_of (sym e)
