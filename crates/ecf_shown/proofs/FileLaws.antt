-- Each file that is spelled is read back from what is shown of it.
use Rattle.std.proofs.Common.{ℕ, ◌+◌, true, false, List, [], ◌∷◌, ◌++◌, map, Option, Some, None, refl, sym, ap, subst, ◌∙◌, append_assoc, append-nil}
use Rattle.std.specs.List.{AllByRecursion, flat_map}
use Rattle.std.specs.Option.{option_map}
use Rattle.ecf_grammar.specs.declared.tokens.Word.TheVariants as word
use Rattle.ecf_grammar.specs.declared.tokens.Sign.TheVariants as sign
use Rattle.ecf_grammar.specs.Spelling.{IsName}
use Rattle.ecf_grammar.specs.Lexemes.{NumberedLexemes}
use Rattle.ecf_grammar.specs.Lexemes.Lexeme.{NameOf, WordOf, SignOf}
use Rattle.ecf_grammar.specs.Spells.{SpellsConst, SpellsEntry, SpellsParam, SpellsAll, SpellsMore, SpellsList, SpellsFirst, SpellsEntries, SpellsMember, SpellsObject, SpellsFile}
use Rattle.ecf_grammar.specs.Spells.Is.{is}
use Rattle.ecf_lang.specs.declared.tree.Ty.{Ty}
use Rattle.ecf_lang.specs.declared.tree.Const.{Const}
use Rattle.ecf_lang.specs.declared.tree.Const.TheVariants as const
use Rattle.ecf_lang.specs.declared.tree.Param.{Param}
use Rattle.ecf_lang.specs.declared.tree.Block.{Block}
use Rattle.ecf_lang.specs.declared.tree.Member.{Member}
use Rattle.ecf_lang.specs.declared.tree.Member.TheVariants as member
use Rattle.ecf_lang.specs.declared.tree.ObjectDecl.{ObjectDecl}
use Rattle.ecf_lang.specs.declared.tree.Tree.{Tree}
use Rattle.ecf_show.specs.Marks.{Marks, name_mark, word_mark, sign_mark, spaced, comma, joined}
use Rattle.ecf_show.specs.Marks.Mark.{Space, Line}
use Rattle.ecf_show.specs.Statements.{lines_of, type_mark, semicolon, block_marks, braced}
use Rattle.ecf_show.specs.Files.{const_mark, first_marks, entry_marks, entries_marks, param_marks, member_marks, object_marks, file_marks}
use Rattle.ecf_shown.specs.Places.{const_without, param_without, block_without, member_without, object_without, without_places}
use Rattle.ecf_shown.proofs.CutLaws.{StandApart}
use Rattle.ecf_shown.proofs.SayLaws.{token, numbered, number_behind, numbered_append, AreValid, front, behind, valid_of, stands_then, follows_then, follows_none, stands_where_follows, follows_space, follows_line, follows_sign, follows_spaced, stands_word, stands_name, stands_number, stands_none, SpellsLike, Says, GoesOn, both_alike}
use Rattle.ecf_shown.proofs.StatementLaws.{type_word, type_tokens, type_spelled, stands_type, follows_colon, IsBlockBack, block_is_read}

-- ---- lists

module _ {A : Type 0} (Spells : NumberedLexemes → A → Type 0) (without : A → A) (show : A → Marks) where
  abbrev pub IsBack : A → Type 0
  IsBack x = Says Spells without x (show x)

  more_go_on : (xs : List A) → AllByRecursion IsBack xs → GoesOn (SpellsMore Spells) (map without) xs (flat_map (λ marks. comma ++ marks) (map show xs))
  more_go_on [] are = record { follows = follows_none; tokens = λ at. record { again = []; spelled = SpellsMore.none; alike = refl } }
  more_go_on (x ∷ xs) are =
      let one = are.0 in
      let more = more_go_on xs are.1 in
      record {
        follows = follows_then (follows_sign sign.Comma refl (stands_where_follows (follows_space one.stands))) more.follows;
        tokens = λ at.
            let it = one.tokens (at + 1) in
            let others = more.tokens (number_behind (at + 1) (show x)) in
            record {
              again = it.again ∷ others.again;
              spelled = subst (λ ls. SpellsMore Spells ((at, SignOf sign.Comma) ∷ ls) (it.again ∷ others.again)) (sym (numbered_append (at + 1) (show x) (flat_map (λ marks. comma ++ marks) (map show xs)))) (SpellsMore.more (is at) it.spelled others.spelled);
              alike = both_alike it.alike others.alike;
            };
      }

  pub list_says : (xs : List A) → AllByRecursion IsBack xs → Says (SpellsList Spells) (map without) xs (joined comma (map show xs))
  list_says [] are = record { stands = stands_none; tokens = λ at. record { again = []; spelled = SpellsList.empty; alike = refl } }
  list_says (x ∷ xs) are =
      let one = are.0 in
      let more = more_go_on xs are.1 in
      record {
        stands = stands_then one.stands more.follows;
        tokens = λ at.
            let it = one.tokens at in
            let others = more.tokens (number_behind at (show x)) in
            record {
              again = it.again ∷ others.again;
              spelled = subst (λ ls. SpellsList Spells ls (it.again ∷ others.again)) (sym (numbered_append at (show x) (flat_map (λ marks. comma ++ marks) (map show xs)))) (SpellsList.list it.spelled others.spelled);
              alike = both_alike it.alike others.alike;
            };
      }

-- ---- constants, parameters, initial values

const_is_read : {a : NumberedLexemes} {x : Const} → SpellsConst a x → AreValid a → Says SpellsConst const_without x (const_mark x ∷ [])
const_is_read (SpellsConst.number {value = value} v) s = record { stands = stands_number value (valid_of v s); tokens = λ at. record { again = const.Number at value; spelled = SpellsConst.number (is at); alike = refl } }
const_is_read (SpellsConst.yes v) s = record { stands = stands_word word.True follows_none; tokens = λ at. record { again = const.Flag at true; spelled = SpellsConst.yes (is at); alike = refl } }
const_is_read (SpellsConst.no v) s = record { stands = stands_word word.False follows_none; tokens = λ at. record { again = const.Flag at false; spelled = SpellsConst.no (is at); alike = refl } }
const_is_read (SpellsConst.name {bytes = bytes} v) s = record { stands = stands_name bytes (valid_of v s) follows_none; tokens = λ at. record { again = const.Name at bytes; spelled = SpellsConst.name (is at); alike = refl } }

abbrev entry_of : Const → Const → Const × Const
entry_of key value = (key, value)

abbrev entry_without : Const × Const → Const × Const
entry_without entry = (const_without entry.0, const_without entry.1)

entry_is_read : {a : NumberedLexemes} {x : Const × Const} → SpellsEntry a x → AreValid a → Says SpellsEntry entry_without x (entry_marks x)
entry_is_read (SpellsEntry.entry {a = a} {s = c} {b = b} {key = key} {value = value} p v q) s =
    let first = const_is_read p (front a (c ++ b) s) in
    let last = const_is_read q (behind c b (behind a (c ++ b) s)) in
    record {
      stands = stands_then first.stands (follows_colon last.stands);
      tokens = λ at.
          let k = first.tokens at in
          let n = number_behind at (const_mark key ∷ []) in
          let it = last.tokens (n + 1) in
          record {
            again = (k.again, it.again);
            spelled = subst (λ ls. SpellsEntry ls (k.again, it.again)) (sym (numbered_append at (const_mark key ∷ []) (sign_mark sign.Colon ∷ Space ∷ const_mark value ∷ []))) (SpellsEntry.entry k.spelled (is n) it.spelled);
            alike = ap (λ x. entry_of x (const_without it.again)) k.alike ∙ ap (entry_of (const_without key)) it.alike;
          };
    }

param_is_read : {a : NumberedLexemes} {x : Param} → SpellsParam a x → AreValid a → Says SpellsParam param_without x (param_marks x)
param_is_read (SpellsParam.param {n = n} {s = c} {t = t} {bytes = bytes} {kind = kind} m v k) s = record {
  stands = stands_name bytes (valid_of m (front n (c ++ t) s)) (follows_colon (stands_type kind follows_none));
  tokens = λ at. record {
    again = record { at = at; name = bytes; ty = kind };
    spelled = subst (λ ls. SpellsParam ((at, NameOf bytes) ∷ (at + 1, SignOf sign.Colon) ∷ ls) (record { at = at; name = bytes; ty = kind })) (sym (type_tokens ((at + 1) + 1) kind []))
        (SpellsParam.param (is at) (is (at + 1)) (type_spelled kind ((at + 1) + 1)));
    alike = refl;
  };
}

first_is_read : {a : NumberedLexemes} {x : Option Const} → SpellsFirst a x → AreValid a → GoesOn SpellsFirst (option_map const_without) x (first_marks x)
first_is_read SpellsFirst.no_first s = record { follows = follows_none; tokens = λ at. record { again = None; spelled = SpellsFirst.no_first; alike = refl } }
first_is_read (SpellsFirst.first {s = c} {a = a} {value = value} v p) s =
    let one = const_is_read p (behind c a s) in
    record {
      follows = follows_spaced sign.Assign one.stands;
      tokens = λ at. let it = one.tokens (at + 1) in record { again = Some it.again; spelled = SpellsFirst.first (is at) it.spelled; alike = ap (λ x. Some x) it.alike };
    }

-- each item of a list that is spelled, where each alone is read back
module _ {A : Type 0} (Spells : NumberedLexemes → A → Type 0) (without : A → A) (show : A → Marks) (read : (a : NumberedLexemes) (x : A) → Spells a x → AreValid a → Says Spells without x (show x)) where
  more_are_read : {a : NumberedLexemes} {xs : List A} → SpellsMore Spells a xs → AreValid a → AllByRecursion (λ x. Says Spells without x (show x)) xs
  more_are_read SpellsMore.none s = tt
  more_are_read (SpellsMore.more {s = c} {a = a} {b = b} {part = part} v p q) s = (read a part p (front a b (behind c (a ++ b) s)), more_are_read q (behind a b (behind c (a ++ b) s)))

  pub list_is_read : {a : NumberedLexemes} {xs : List A} → SpellsList Spells a xs → AreValid a → AllByRecursion (λ x. Says Spells without x (show x)) xs
  list_is_read SpellsList.empty s = tt
  list_is_read (SpellsList.list {a = a} {b = b} {first = first} p q) s = (read a first p (front a b s), more_are_read q (behind a b s))

entries_go_on : (pairs : List (Const × Const)) → AllByRecursion (λ x. Says SpellsEntry entry_without x (entry_marks x)) pairs → GoesOn SpellsEntries (map entry_without) pairs (entries_marks pairs)
entries_go_on [] are = record { follows = follows_none; tokens = λ at. record { again = []; spelled = SpellsEntries.no_entries; alike = refl } }
entries_go_on (x ∷ xs) are =
    let inner = list_says SpellsEntry entry_without entry_marks (x ∷ xs) are in
    let marks = joined comma (map entry_marks (x ∷ xs)) in
    record {
      follows = follows_spaced sign.Assign (stands_where_follows (follows_sign sign.OpenBrace refl (stands_where_follows (follows_space (stands_then inner.stands (follows_space (stands_where_follows (follows_sign sign.CloseBrace refl stands_none))))))));
      tokens = λ at.
          let from = (at + 1) + 1 in
          let it = inner.tokens from in
          record {
            again = it.again;
            spelled = subst (λ ls. SpellsEntries ((at, SignOf sign.Assign) ∷ (at + 1, SignOf sign.OpenBrace) ∷ ls) it.again) (sym (numbered_append from marks (Space ∷ sign_mark sign.CloseBrace ∷ [])))
                (SpellsEntries.entries (is at) (is (at + 1)) it.spelled (is (number_behind from marks)));
            alike = it.alike;
          };
    }

entries_are_read : {a : NumberedLexemes} {xs : List (Const × Const)} → SpellsEntries a xs → AreValid a → GoesOn SpellsEntries (map entry_without) xs (entries_marks xs)
entries_are_read SpellsEntries.no_entries s = entries_go_on [] tt
entries_are_read (SpellsEntries.entries {s = c} {o = o} {a = a} {c = d} {pairs = pairs} v w p u) s =
    entries_go_on pairs (list_is_read SpellsEntry entry_without entry_marks (λ l x e valid. entry_is_read e valid) p (front a d (behind o (a ++ d) (behind c (o ++ (a ++ d)) s))))

-- ---- members

field_reads : (place : ℕ) (bytes : List ℕ) (kind : Ty) (value : Option Const) → IsName bytes → GoesOn SpellsFirst (option_map const_without) value (first_marks value)
    → Says SpellsMember member_without (member.Field place bytes kind value) (member_marks (member.Field place bytes kind value))
field_reads place bytes kind value valid first = record {
  stands = stands_type kind (follows_space (stands_name bytes valid (follows_then first.follows (follows_sign sign.Semicolon refl stands_none))));
  tokens = λ at.
      let name_at = at + 1 in
      let from = name_at + 1 in
      let it = first.tokens from in
      let tokens = type_tokens at kind (Space ∷ name_mark bytes ∷ first_marks value ++ semicolon) ∙ ap (λ ls. token at (WordOf (type_word kind)) (token name_at (NameOf bytes) ls)) (numbered_append from (first_marks value) semicolon) in
      record {
        again = member.Field name_at bytes kind it.again;
        spelled = subst (λ ls. SpellsMember ls (member.Field name_at bytes kind it.again)) (sym tokens)
            (SpellsMember.field (type_spelled kind at) (is name_at) it.spelled (is (number_behind from (first_marks value))));
        alike = ap (λ x. member.Field 0 bytes kind x) it.alike;
      };
}

map_reads : (place : ℕ) (bytes : List ℕ) (key value : Ty) (pairs : List (Const × Const)) → IsName bytes → GoesOn SpellsEntries (map entry_without) pairs (entries_marks pairs)
    → Says SpellsMember member_without (member.Map place bytes key value pairs) (member_marks (member.Map place bytes key value pairs))
map_reads place bytes key value pairs valid entries = record {
  stands = stands_word word.Map (follows_space (stands_name bytes valid (follows_colon (stands_type key (follows_spaced sign.Arrow (stands_type value (follows_then entries.follows (follows_sign sign.Semicolon refl stands_none))))))));
  tokens = λ at.
      let name_at = at + 1 in
      let key_at = (name_at + 1) + 1 in
      let arrow_at = key_at + 1 in
      let value_at = arrow_at + 1 in
      let from = value_at + 1 in
      let it = entries.tokens from in
      let last = type_tokens value_at value (entries_marks pairs ++ semicolon) ∙ ap (token value_at (WordOf (type_word value))) (numbered_append from (entries_marks pairs) semicolon) in
      let tokens = type_tokens key_at key (spaced sign.Arrow ++ type_mark value ∷ entries_marks pairs ++ semicolon) ∙ ap (λ ls. token key_at (WordOf (type_word key)) (token arrow_at (SignOf sign.Arrow) ls)) last in
      record {
        again = member.Map name_at bytes key value it.again;
        spelled = subst (λ ls. SpellsMember ((at, WordOf word.Map) ∷ (name_at, NameOf bytes) ∷ (name_at + 1, SignOf sign.Colon) ∷ ls) (member.Map name_at bytes key value it.again)) (sym tokens)
            (SpellsMember.map (is at) (is name_at) (is (name_at + 1)) (type_spelled key key_at) (is arrow_at) (type_spelled value value_at) it.spelled (is (number_behind from (entries_marks pairs))));
        alike = ap (λ x. member.Map 0 bytes key value x) it.alike;
      };
}

method_reads : (place : ℕ) (bytes : List ℕ) (params : List Param) (answer : Ty) (body : Block) → IsName bytes → AllByRecursion (λ x. Says SpellsParam param_without x (param_marks x)) params → IsBlockBack body
    → Says SpellsMember member_without (member.Method place bytes params answer body) (member_marks (member.Method place bytes params answer body))
method_reads place bytes params answer body valid are block =
    let inner = list_says SpellsParam param_without param_marks params are in
    let code = block 1 in
    let list = joined comma (map param_marks params) in
    let rest = sign_mark sign.Colon ∷ Space ∷ type_mark answer ∷ Space ∷ block_marks body 1 in
    let same = ap (λ ms. word_mark word.Method ∷ Space ∷ name_mark bytes ∷ sign_mark sign.OpenParen ∷ ms) (append_assoc list (sign_mark sign.CloseParen ∷ []) rest) in
    subst (Says SpellsMember member_without (member.Method place bytes params answer body)) (sym same) (record {
      stands = stands_word word.Method (follows_space (stands_name bytes valid (follows_sign sign.OpenParen refl (stands_then inner.stands (follows_sign sign.CloseParen refl (stands_where_follows (follows_colon (stands_type answer (follows_space code.stands)))))))));
      tokens = λ at.
          let name_at = at + 1 in
          let from = (name_at + 1) + 1 in
          let it = inner.tokens from in
          let close_at = number_behind from list in
          let type_at = (close_at + 1) + 1 in
          let others = code.tokens (type_at + 1) in
          let tokens = numbered_append from list (sign_mark sign.CloseParen ∷ rest)
          ∙ ap (λ ls. numbered from list ++ token close_at (SignOf sign.CloseParen) (token (close_at + 1) (SignOf sign.Colon) ls)) (type_tokens type_at answer (Space ∷ block_marks body 1)) in
          record {
            again = member.Method name_at bytes it.again answer others.again;
            spelled = subst (λ ls. SpellsMember ((at, WordOf word.Method) ∷ (name_at, NameOf bytes) ∷ (name_at + 1, SignOf sign.OpenParen) ∷ ls) (member.Method name_at bytes it.again answer others.again)) (sym tokens)
                (SpellsMember.method (is at) (is name_at) (is (name_at + 1)) it.spelled (is close_at) (is (close_at + 1)) (type_spelled answer type_at) others.spelled);
            alike = ap (λ x. member.Method 0 bytes x answer (block_without others.again)) it.alike ∙ ap (λ x. member.Method 0 bytes (map param_without params) answer x) others.alike;
          };
    })

member_is_read : {a : NumberedLexemes} {x : Member} → SpellsMember a x → AreValid a → Says SpellsMember member_without x (member_marks x)
member_is_read (SpellsMember.field {t = t} {n = n} {f = f} {c = c} {at = at} {bytes = bytes} {kind = kind} {value = value} k m p h) s =
    let named = behind t (n ++ (f ++ c)) s in
    field_reads at bytes kind value (valid_of m (front n (f ++ c) named)) (first_is_read p (front f c (behind n (f ++ c) named)))
member_is_read (SpellsMember.map {w = w} {n = n} {s = o} {k = k} {r = r} {v = v} {e = e} {c = c} {at = at} {bytes = bytes} {key = key} {value = value} {pairs = pairs} b m d g h i p j) s =
    let named = behind w (n ++ (o ++ (k ++ (r ++ (v ++ (e ++ c)))))) s in
    let typed = behind o (k ++ (r ++ (v ++ (e ++ c)))) (behind n (o ++ (k ++ (r ++ (v ++ (e ++ c))))) named) in
    let entries = behind v (e ++ c) (behind r (v ++ (e ++ c)) (behind k (r ++ (v ++ (e ++ c))) typed)) in
    map_reads at bytes key value pairs (valid_of m (front n (o ++ (k ++ (r ++ (v ++ (e ++ c))))) named)) (entries_are_read p (front e c entries))
member_is_read (SpellsMember.method {w = w} {n = n} {o = o} {p = p} {c = c} {s = d} {t = t} {b = b} {at = at} {bytes = bytes} {params = params} {answer = answer} {body = body} e m f g h i j k) s =
    let named = behind w (n ++ (o ++ (p ++ (c ++ (d ++ (t ++ b)))))) s in
    let listed = behind o (p ++ (c ++ (d ++ (t ++ b)))) (behind n (o ++ (p ++ (c ++ (d ++ (t ++ b))))) named) in
    let block = behind t b (behind d (t ++ b) (behind c (d ++ (t ++ b)) (behind p (c ++ (d ++ (t ++ b))) listed))) in
    method_reads at bytes params answer body (valid_of m (front n (o ++ (p ++ (c ++ (d ++ (t ++ b))))) named)) (list_is_read SpellsParam param_without param_marks (λ l x e valid. param_is_read e valid) g (front p (c ++ (d ++ (t ++ b))) listed)) (block_is_read k block)

members_are_read : {a : NumberedLexemes} {xs : List Member} → SpellsAll SpellsMember a xs → AreValid a → AllByRecursion (λ x. Says SpellsMember member_without x (member_marks x)) xs
members_are_read SpellsAll.none s = tt
members_are_read (SpellsAll.some {a = a} {b = b} p q) s = (member_is_read p (front a b s), members_are_read q (behind a b s))

-- ---- objects and files

members_go_on : (members : List Member) → AllByRecursion (λ x. Says SpellsMember member_without x (member_marks x)) members
    → GoesOn (SpellsAll SpellsMember) (map member_without) members (lines_of 1 (map (λ m depth. member_marks m) members))
members_go_on [] are = record { follows = follows_none; tokens = λ at. record { again = []; spelled = SpellsAll.none; alike = refl } }
members_go_on (m ∷ ms) are =
    let one = are.0 in
    let more = members_go_on ms are.1 in
    record {
      follows = follows_then (follows_line 1 one.stands) more.follows;
      tokens = λ at.
          let it = one.tokens at in
          let others = more.tokens (number_behind at (member_marks m)) in
          record {
            again = it.again ∷ others.again;
            spelled = subst (λ ls. SpellsAll SpellsMember ls (it.again ∷ others.again)) (sym (numbered_append at (member_marks m) (lines_of 1 (map (λ x depth. member_marks x) ms)))) (SpellsAll.some it.spelled others.spelled);
            alike = both_alike it.alike others.alike;
          };
    }

-- an object without the end of its last line
abbrev object_text : ObjectDecl → Marks
object_text object = word_mark word.Object ∷ Space ∷ name_mark object.name ∷ Space ∷ braced 0 (map (λ m depth. member_marks m) object.members)

abbrev object_of : ℕ → List ℕ → List Member → ObjectDecl
object_of at bytes members = record { at = at; name = bytes; members = members }

object_says : (place : ℕ) (bytes : List ℕ) (members : List Member) → IsName bytes → AllByRecursion (λ x. Says SpellsMember member_without x (member_marks x)) members
    → Says SpellsObject object_without (object_of place bytes members) (object_text (object_of place bytes members))
object_says place bytes [] valid are = record {
  stands = stands_word word.Object (follows_space (stands_name bytes valid (follows_space (stands_where_follows (follows_sign sign.OpenBrace refl (stands_where_follows (follows_space (stands_where_follows (follows_sign sign.CloseBrace refl stands_none)))))))));
  tokens = λ at.
      let name_at = at + 1 in
      record {
        again = object_of name_at bytes [];
        spelled = SpellsObject.object (is at) (is name_at) (is (name_at + 1)) SpellsAll.none (is ((name_at + 1) + 1));
        alike = refl;
      };
}
object_says place bytes (m ∷ ms) valid are =
    let more = members_go_on (m ∷ ms) are in
    let lines = lines_of 1 (map (λ x depth. member_marks x) (m ∷ ms)) in
    record {
      stands = stands_word word.Object (follows_space (stands_name bytes valid (follows_space (stands_where_follows (follows_sign sign.OpenBrace refl (stands_where_follows (follows_then more.follows (follows_line 0 (stands_where_follows (follows_sign sign.CloseBrace refl stands_none))))))))));
      tokens = λ at.
          let name_at = at + 1 in
          let from = (name_at + 1) + 1 in
          let it = more.tokens from in
          record {
            again = object_of name_at bytes it.again;
            spelled = subst (λ ls. SpellsObject ((at, WordOf word.Object) ∷ (name_at, NameOf bytes) ∷ (name_at + 1, SignOf sign.OpenBrace) ∷ ls) (object_of name_at bytes it.again)) (sym (numbered_append from lines (Line 0 ∷ sign_mark sign.CloseBrace ∷ [])))
                (SpellsObject.object (is at) (is name_at) (is (name_at + 1)) it.spelled (is (number_behind from lines)));
            alike = ap (λ xs. object_of 0 bytes xs) it.alike;
          };
    }

-- whatever comes behind these, they stand apart from it
abbrev StandsAlone : Marks → Type 0
StandsAlone marks = (rest : Marks) → StandApart rest → StandApart (marks ++ rest)

record IsWhole {A : Type 0} (Spells : NumberedLexemes → A → Type 0) (without : A → A) (form : A) (marks : Marks) : Type 0 where
  alone : StandsAlone marks
  tokens : (at : ℕ) → SpellsLike Spells without form (numbered at marks)

-- with the end of its last line it stands apart from whatever comes behind
object_is_whole : (object : ObjectDecl) → Says SpellsObject object_without object (object_text object) → IsWhole SpellsObject object_without object (object_marks object)
object_is_whole object says =
    let text = object_text object in
    record {
      alone = λ rest apart. subst StandApart (sym (append_assoc text (Line 0 ∷ []) rest)) (says.stands.before (Line 0 ∷ rest) refl apart).0;
      tokens = λ at. let it = says.tokens at in record {
        again = it.again;
        spelled = subst (λ ls. SpellsObject ls it.again) (sym (numbered_append at text (Line 0 ∷ []) ∙ append-nil (numbered at text))) it.spelled;
        alike = it.alike;
      };
    }

object_is_read : {a : NumberedLexemes} {x : ObjectDecl} → SpellsObject a x → AreValid a → IsWhole SpellsObject object_without x (object_marks x)
object_is_read (SpellsObject.object {w = w} {n = n} {o = o} {m = m} {c = c} {at = at} {bytes = bytes} {members = members} e v f p g) s =
    let named = behind w (n ++ (o ++ (m ++ c))) s in
    let inner = front m c (behind o (m ++ c) (behind n (o ++ (m ++ c)) named)) in
    object_is_whole (object_of at bytes members) (object_says at bytes members (valid_of v (front n (o ++ (m ++ c)) named)) (members_are_read p inner))

objects_are_read : {a : NumberedLexemes} {xs : List ObjectDecl} → SpellsAll SpellsObject a xs → AreValid a → IsWhole (SpellsAll SpellsObject) (map object_without) xs (flat_map object_marks xs)
objects_are_read SpellsAll.none s = record { alone = λ rest apart. apart; tokens = λ at. record { again = []; spelled = SpellsAll.none; alike = refl } }
objects_are_read (SpellsAll.some {a = a} {b = b} {first = first} {rest = rest} p q) s =
    let one = object_is_read p (front a b s) in
    let more = objects_are_read q (behind a b s) in
    record {
      alone = λ after apart. subst StandApart (sym (append_assoc (object_marks first) (flat_map object_marks rest) after)) (one.alone (flat_map object_marks rest ++ after) (more.alone after apart));
      tokens = λ at.
          let it = one.tokens at in
          let others = more.tokens (number_behind at (object_marks first)) in
          record {
            again = it.again ∷ others.again;
            spelled = subst (λ ls. SpellsAll SpellsObject ls (it.again ∷ others.again)) (sym (numbered_append at (object_marks first) (flat_map object_marks rest))) (SpellsAll.some it.spelled others.spelled);
            alike = both_alike it.alike others.alike;
          };
    }

abbrev tree_of : List ObjectDecl → Tree
tree_of objects = record { objects = objects }

-- the marks of a file stand apart, and their tokens spell it
pub record IsFileBack (tree : Tree) : Type 0 where
  pub apart : StandApart (file_marks tree)
  pub tokens : (at : ℕ) → SpellsLike SpellsFile without_places tree (numbered at (file_marks tree))

pub file_is_read : {a : NumberedLexemes} {x : Tree} → SpellsFile a x → AreValid a → IsFileBack x
file_is_read (SpellsFile.file {a = a} {b = b} {first = first} {rest = rest} p q) s =
    let one = object_is_read p (front a b s) in
    let more = objects_are_read q (behind a b s) in
    record {
      apart = one.alone (flat_map object_marks rest) (subst StandApart (append-nil (flat_map object_marks rest)) (more.alone [] tt));
      tokens = λ at.
          let it = one.tokens at in
          let others = more.tokens (number_behind at (object_marks first)) in
          record {
            again = tree_of (it.again ∷ others.again);
            spelled = subst (λ ls. SpellsFile ls (tree_of (it.again ∷ others.again))) (sym (numbered_append at (object_marks first) (flat_map object_marks rest))) (SpellsFile.file it.spelled others.spelled);
            alike = ap tree_of (both_alike it.alike others.alike);
          };
    }
