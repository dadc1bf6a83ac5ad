-- What holds of the bytes of every word and sign.
use Rattle.std.specs.Prelude.{◌≡◌, ◌≢◌, ℕ, ◌≤◌, false, IsTrue, List, ◌∷◌, length}
use Rattle.std.specs.Char.{is_ascii_digit}
use Rattle.ecf_grammar.specs.declared.tokens.Word.{Word}
use Rattle.ecf_grammar.specs.declared.tokens.Sign.{Sign}
use Rattle.ecf_grammar.specs.Spelling.{word_text, sign_text, is_name_start, is_blank, IsIdentifier}

-- a sign has one byte or two, the first of which begins nothing else, and it begins no comment
pub record IsSignText (bytes : List ℕ) : Type 0 where
  pub first : ℕ
  pub more : List ℕ
  pub is : bytes ≡ first ∷ more
  pub no_name : is_name_start first ≡ false
  pub no_digit : is_ascii_digit first ≡ false
  pub no_blank : is_blank first ≡ false
  pub no_comment : (remark : List ℕ) → bytes ≢ 47 ∷ 47 ∷ remark
  pub short : length bytes ≤ 2

-- the first byte of a lexeme tells whether it is a word or name, a number or a sign, and is no blank
pub record LexemesBeginApart : Type 0 where
  pub name_or_digit : (byte : ℕ) → IsTrue (is_name_start byte) → ¬ IsTrue (is_ascii_digit byte)
  pub name_or_blank : (byte : ℕ) → IsTrue (is_name_start byte) → ¬ IsTrue (is_blank byte)
  pub digit_or_blank : (byte : ℕ) → IsTrue (is_ascii_digit byte) → ¬ IsTrue (is_blank byte)
  pub word : (w : Word) → IsIdentifier (word_text w)
  pub sign : (s : Sign) → IsSignText (sign_text s)
