-- What reads lexemes from the front of a list, and the few ways to put such readers together.
use Rattle.std.specs.Prelude.{ℕ, zero, suc, Bool, true, false, if◌then◌else◌, List, [], ◌∷◌, ◌++◌, length, Option, Some, None, Result, Ok, Err}
use denote.Enum.Bare.{sameb}
use Rattle.ecf_grammar.specs.contracts.tokens.Sign as signs
use Rattle.ecf_grammar.specs.contracts.tokens.Word as words
use Rattle.ecf_grammar.specs.declared.tokens.Kind.{Kind}
use Rattle.ecf_grammar.specs.declared.tokens.Kind.TheVariants as kind
use Rattle.ecf_grammar.specs.declared.tokens.Word.{Word}
use Rattle.ecf_grammar.specs.declared.tokens.Sign.{Sign}
use Rattle.ecf_lang.specs.declared.tree.Op.{Op}
use Rattle.ecf_grammar.specs.Lexemes.{Lexeme, NumberedLexemes}
use Rattle.ecf_grammar.specs.Lexemes.Lexeme.{NameOf, NumberOf, WordOf, SignOf}

-- what is read and the lexemes behind it, or the lexemes from the first on that is out of place
abbrev pub Parse : Type 0 → Type 0
Parse A = Result (A × NumberedLexemes) NumberedLexemes

abbrev pub Parser : Type 0 → Type 0
Parser A = NumberedLexemes → Parse A

abbrev pub and_then : {A B : Type 0} → Parse A → (A → Parser B) → Parse B
and_then (Ok p) f = f p.0 p.1
and_then (Err e) f = Err e

infixl 10 ◌>>=◌
abbrev pub ◌>>=◌ : {A B : Type 0} → Parser A → (A → Parser B) → Parser B
p >>= f = λ ls. and_then (p ls) f

abbrev pub pure : {A : Type 0} → A → Parser A
pure x = λ ls. Ok (x, ls)

-- the next lexeme is out of place
abbrev pub refuse : {A : Type 0} → Parser A
refuse = λ ls. Err ls

-- ---- the next lexeme

abbrev pub kind_of : Lexeme → Kind
kind_of (NameOf bytes) = kind.Name
kind_of (NumberOf value) = kind.Number value
kind_of (WordOf w) = kind.Word w
kind_of (SignOf s) = kind.Sign s

abbrev pub next : NumberedLexemes → Option Kind
next [] = None
next (l ∷ ls) = Some (kind_of l.1)

abbrev pub number_of : NumberedLexemes → ℕ
number_of [] = 0
number_of (l ∷ ls) = l.0

abbrev pub behind : NumberedLexemes → NumberedLexemes
behind [] = []
behind (l ∷ ls) = ls

unfoldable pub is_sign : Sign → Option Kind → Bool
is_sign s (Some (kind.Sign t)) = sameb signs.the_type t s
is_sign s _ = false

unfoldable pub is_word : Word → Option Kind → Bool
is_word w (Some (kind.Word v)) = sameb words.the_type v w
is_word w _ = false

unfoldable pub is_name : Option Kind → Bool
is_name (Some kind.Name) = true
is_name _ = false

unfoldable pub number_in : Option Kind → Option ℕ
number_in (Some (kind.Number value)) = Some value
number_in _ = None

-- the bytes of the next lexeme, if it is a name
abbrev pub bytes_in : Lexeme → List ℕ
bytes_in (NameOf bytes) = bytes
bytes_in _ = []

abbrev pub bytes_of : NumberedLexemes → List ℕ
bytes_of [] = []
bytes_of (l ∷ ls) = bytes_in l.1

-- the reader that the kind of the next lexeme chooses
abbrev pub choose : {A : Type 0} → (Option Kind → Parser A) → Parser A
choose f = λ ls. f (next ls) ls

abbrev pub when : {A : Type 0} → (Option Kind → Bool) → Parser A → Parser A → Parser A
when test p q = λ ls. if test (next ls) then p ls else q ls

-- ---- single lexemes, each with its number

unfoldable pub sign : Sign → Parser ℕ
sign s = λ ls. if is_sign s (next ls) then Ok (number_of ls, behind ls) else Err ls

unfoldable pub word : Word → Parser ℕ
word w = λ ls. if is_word w (next ls) then Ok (number_of ls, behind ls) else Err ls

unfoldable pub name : Parser (ℕ × List ℕ)
name [] = Err []
name ((at, NameOf bytes) ∷ ls) = Ok ((at, bytes), ls)
name (l ∷ ls) = Err (l ∷ ls)

unfoldable pub number : Parser (ℕ × ℕ)
number [] = Err []
number ((at, NumberOf value) ∷ ls) = Ok ((at, value), ls)
number (l ∷ ls) = Err (l ∷ ls)

-- a value, if that sign comes next
abbrev pub closed : {A : Type 0} → A → Sign → Parser A
closed x s = sign s >>= (λ _. pure x)

-- takes the sign, if it comes next
unfoldable pub eat_sign : Sign → Parser Bool
eat_sign s = λ ls. if is_sign s (next ls) then Ok (true, behind ls) else Ok (false, ls)

unfoldable pub eat_word : Word → Parser Bool
eat_word w = λ ls. if is_word w (next ls) then Ok (true, behind ls) else Ok (false, ls)

-- the operator of the table that comes next
abbrev pub op_at : (Sign → Option Op) → Option Kind → Option Op
op_at table (Some (kind.Sign s)) = table s
op_at table _ = None

abbrev pub operator_read : Option Op → NumberedLexemes → Parse (Option Op)
operator_read None ls = Ok (None, ls)
operator_read (Some o) ls = Ok (Some o, behind ls)

unfoldable pub operator : (Sign → Option Op) → Parser (Option Op)
operator table = λ ls. operator_read (op_at table (next ls)) ls

-- ---- recursion, of which there is enough where each further call stands behind a lexeme

abbrev pub fix_of : {A : Type 0} → (Parser A → Parser A) → ℕ → Parser A
fix_of step zero = refuse
fix_of step (suc n) = step (fix_of step n)

unfoldable pub fix : {A : Type 0} → (Parser A → Parser A) → Parser A
fix step = λ ls. fix_of step (suc (length ls)) ls

abbrev pub each_turn : {A : Type 0} → Sign → Parser A → Parser (List A) → Parser (List A)
each_turn s item more = eat_sign s >>= λ found. if found then item >>= (λ x. more >>= (λ xs. pure (x ∷ xs))) else pure []

-- any number of items, each behind that sign
unfoldable pub each : {A : Type 0} → Sign → Parser A → Parser (List A)
each s item = fix (each_turn s item)

abbrev pub chain_by : {A : Type 0} → Parser A → Parser (List (Op × A)) → Option Op → Parser (List (Op × A))
chain_by item more None = pure []
chain_by item more (Some o) = item >>= (λ x. more >>= (λ xs. pure ((o, x) ∷ xs)))

abbrev pub chain_turn : {A : Type 0} → (Sign → Option Op) → Parser A → Parser (List (Op × A)) → Parser (List (Op × A))
chain_turn table item more = operator table >>= chain_by item more

-- any number of items, each behind an operator of the table
unfoldable pub chain : {A : Type 0} → (Sign → Option Op) → Parser A → Parser (List (Op × A))
chain table item = fix (chain_turn table item)

abbrev pub until_turn : {A : Type 0} → (Option Kind → Bool) → Parser A → Parser (List A) → Parser (List A)
until_turn test item more = when test (pure []) (item >>= (λ x. more >>= (λ xs. pure (x ∷ xs))))

-- items up to a lexeme of that kind
unfoldable pub until : {A : Type 0} → (Option Kind → Bool) → Parser A → Parser (List A)
until test item = fix (until_turn test item)

-- none before that sign, or some with commas between
unfoldable pub list_of : {A : Type 0} → Sign → Sign → Parser A → Parser (List A)
list_of comma close item = when (is_sign close) (pure []) (item >>= (λ x. each comma item >>= (λ xs. pure (x ∷ xs))))

-- ---- what a function that reads ensures: the reader's outcome, unless memory runs out

abbrev pub front : {A : Type 0} → List A → Parse (List A) → Parse (List A)
front xs (Ok p) = Ok (xs ++ p.0, p.1)
front xs (Err e) = Err e
