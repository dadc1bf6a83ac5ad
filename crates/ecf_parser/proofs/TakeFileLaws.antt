-- What is spelled is read: members, objects and files.
use Rattle.std.proofs.Common.{◌≡◌, ℕ, true, false, List, [], ◌∷◌, ◌++◌, Option, Some, Ok, refl, sym, ap, ◌∙◌}
use Rattle.ecf_grammar.specs.declared.tokens.Kind.TheVariants as kind
use Rattle.ecf_grammar.specs.declared.tokens.Word.TheVariants as w
use Rattle.ecf_grammar.specs.declared.tokens.Sign.{Sign}
use Rattle.ecf_grammar.specs.declared.tokens.Sign.TheVariants as s
use Rattle.ecf_lang.specs.declared.tree.Ty.{Ty}
use Rattle.ecf_lang.specs.declared.tree.Const.{Const}
use Rattle.ecf_lang.specs.declared.tree.Param.{Param}
use Rattle.ecf_lang.specs.declared.tree.Member.{Member}
use Rattle.ecf_lang.specs.declared.tree.Member.TheVariants as m
use Rattle.ecf_lang.specs.declared.tree.ObjectDecl.{ObjectDecl}
use Rattle.ecf_lang.specs.declared.tree.Tree.{Tree}
use Rattle.ecf_grammar.specs.Lexemes.{NumberedLexemes}
use Rattle.ecf_grammar.specs.Lexemes.Lexeme.{NameOf, WordOf, SignOf}
use Rattle.ecf_grammar.specs.Spells.{Is, SpellsType, SpellsBlock, SpellsConst, SpellsEntry, SpellsParam, SpellsAll, SpellsMore, SpellsList, SpellsFirst, SpellsEntries, SpellsMember, SpellsObject, SpellsFile}
use Rattle.ecf_grammar.specs.Spells.Is.{is}
use Rattle.ecf_parser.specs.Parsers.{Parser, next, is_sign, sign, word, name, eat_sign, each, each_turn, until, until_turn, list_of}
use Rattle.ecf_parser.specs.Descent.{type_, constant, entry, param, first_by, first, entries_by, entries, field, map, method, member, object, at_end, file}
use Rattle.ecf_parser.proofs.ParserLaws.{append_nil, Lawful}
use Rattle.ecf_parser.proofs.StepLaws.{each_is, until_is}
use Rattle.ecf_parser.proofs.FileLaws.{entry_law, param_law, member_law, member_len, object_law, object_len}
use Rattle.ecf_parser.proofs.TakeLaws.{via, seq, is_sign_self, sign_is, word_is, name_is, number_is, eats_sign, leaves_sign, next_is, next_assoc, each_ends, each_goes, until_ends, until_goes, listed_none, listed_some}
use Rattle.ecf_parser.proofs.TakeStatementLaws.{type_is, block_reads}

const_is : {a : NumberedLexemes} {x : Const} (rest : NumberedLexemes) → SpellsConst a x → constant (a ++ rest) ≡ Ok (x, rest)
unfolding constant
const_is rest (SpellsConst.number {value = v} (is at)) = via _ (number_is {value = v} (is at) rest) refl
const_is rest (SpellsConst.yes (is at)) = via _ (word_is {t = w.True} (is at) rest) refl
const_is rest (SpellsConst.no (is at)) = via _ (word_is {t = w.False} (is at) rest) refl
const_is rest (SpellsConst.name {bytes = bytes} (is at)) = via _ (name_is {bytes = bytes} (is at) rest) refl

entry_is : (a : NumberedLexemes) (x : Const × Const) (rest : NumberedLexemes) → SpellsEntry a x → entry (a ++ rest) ≡ Ok (x, rest)
unfolding entry
entry_is a x rest (SpellsEntry.entry {a = k} {s = c} {b = b} p q r) = seq _ constant k (c ++ b) rest (const_is ((c ++ b) ++ rest) p) (seq _ (sign s.Colon) c b rest (sign_is q (b ++ rest)) (via _ (const_is rest r) refl))

param_is : (a : NumberedLexemes) (x : Param) (rest : NumberedLexemes) → SpellsParam a x → param (a ++ rest) ≡ Ok (x, rest)
unfolding param
param_is a x rest (SpellsParam.param {n = n} {s = c} {t = t} p q r) = seq _ name n (c ++ t) rest (name_is p _) (seq _ (sign s.Colon) c t rest (sign_is q (t ++ rest)) (via _ (type_is rest r) refl))

-- ---- lists

module _ {A : Type 0} (S : NumberedLexemes → A → Type 0) (item : Parser A) (law : (N : ℕ) → Lawful N S item item) (item_is : (a : NumberedLexemes) (x : A) (rest : NumberedLexemes) → S a x → item (a ++ rest) ≡ Ok (x, rest)) where
  opens_more : (ls : NumberedLexemes) → each s.Comma item ls ≡ each_turn s.Comma item (each s.Comma item) ls
  opens_more ls = each_is S (SpellsMore S) s.Comma SpellsMore.none (λ c a b at x xs p r rs. SpellsMore.more p r rs) item law ls

  more_reads : {a : NumberedLexemes} {xs : List A} → SpellsMore S a xs → (rest : NumberedLexemes) → is_sign s.Comma (next rest) ≡ false → each s.Comma item (a ++ rest) ≡ Ok (xs, rest)
  more_reads SpellsMore.none rest h = each_ends s.Comma item opens_more rest h
  more_reads (SpellsMore.more {a = a} {b = b} {part = x} o p q) rest h = each_goes s.Comma item opens_more a b rest o (item_is a x (b ++ rest) p) (more_reads q rest h)

  list_reads : {a : NumberedLexemes} {xs : List A} (close : Sign) → ((a : NumberedLexemes) (x : A) (rest : NumberedLexemes) → S a x → is_sign close (next (a ++ rest)) ≡ false) → SpellsList S a xs → (rest : NumberedLexemes) → is_sign s.Comma (next rest) ≡ false → is_sign close (next rest) ≡ true → list_of s.Comma close item (a ++ rest) ≡ Ok (xs, rest)
  list_reads close begins SpellsList.empty rest h g = listed_none s.Comma close item rest g
  list_reads close begins (SpellsList.list {a = a} {b = b} {first = x} p q) rest h g = listed_some s.Comma close item a b rest (begins a x (b ++ rest) p) (item_is a x (b ++ rest) p) (more_reads q rest h)

entry_begins : (a : NumberedLexemes) (x : Const × Const) (rest : NumberedLexemes) → SpellsEntry a x → is_sign s.CloseBrace (next (a ++ rest)) ≡ false
unfolding is_sign
entry_begins a x rest (SpellsEntry.entry (SpellsConst.number (is at)) q r) = refl
entry_begins a x rest (SpellsEntry.entry (SpellsConst.yes (is at)) q r) = refl
entry_begins a x rest (SpellsEntry.entry (SpellsConst.no (is at)) q r) = refl
entry_begins a x rest (SpellsEntry.entry (SpellsConst.name (is at)) q r) = refl

param_begins : (a : NumberedLexemes) (x : Param) (rest : NumberedLexemes) → SpellsParam a x → is_sign s.CloseParen (next (a ++ rest)) ≡ false
unfolding is_sign
param_begins a x rest (SpellsParam.param (is at) q r) = refl

brace_is_no_comma : is_sign s.Comma (Some (kind.Sign s.CloseBrace)) ≡ false
unfolding is_sign
brace_is_no_comma = refl

paren_is_no_comma : is_sign s.Comma (Some (kind.Sign s.CloseParen)) ≡ false
unfolding is_sign
paren_is_no_comma = refl

end_is_no_assign : is_sign s.Assign (Some (kind.Sign s.Semicolon)) ≡ false
unfolding is_sign
end_is_no_assign = refl

-- ---- members

first_is : {a : NumberedLexemes} {x : Option Const} (rest : NumberedLexemes) → SpellsFirst a x → is_sign s.Assign (next rest) ≡ false → first (a ++ rest) ≡ Ok (x, rest)
unfolding first
first_is rest SpellsFirst.no_first h = via first_by (leaves_sign s.Assign rest h) refl
first_is rest (SpellsFirst.first {s = o} {a = a} p r) h = seq first_by (eat_sign s.Assign) o a rest (eats_sign p (a ++ rest)) (via _ (const_is rest r) refl)

entries_is : {a : NumberedLexemes} {x : List (Const × Const)} (rest : NumberedLexemes) → SpellsEntries a x → is_sign s.Assign (next rest) ≡ false → entries (a ++ rest) ≡ Ok (x, rest)
unfolding entries
entries_is rest SpellsEntries.no_entries h = via entries_by (leaves_sign s.Assign rest h) refl
entries_is rest (SpellsEntries.entries {s = q} {o = o} {a = a} {c = c} p p1 r p2) h = seq entries_by (eat_sign s.Assign) q (o ++ (a ++ c)) rest (eats_sign p _) (seq _ (sign s.OpenBrace) o (a ++ c) rest (sign_is p1 _) (seq _ (list_of s.Comma s.CloseBrace entry) a c rest (list_reads SpellsEntry entry (λ M. entry_law) entry_is s.CloseBrace entry_begins r (c ++ rest) (next_is (λ k. is_sign s.Comma k ≡ false) rest p2 brace_is_no_comma) (next_is (λ k. is_sign s.CloseBrace k ≡ true) rest p2 (is_sign_self s.CloseBrace))) (via _ (sign_is p2 rest) refl)))

field_is : {n c : NumberedLexemes} {at at1 : ℕ} {bytes : List ℕ} {k : Ty} {v : Option Const} (t f rest : NumberedLexemes) → SpellsType t k → Is (NameOf bytes) n at → SpellsFirst f v → Is (SignOf s.Semicolon) c at1 → field ((t ++ (n ++ (f ++ c))) ++ rest) ≡ Ok (m.Field at bytes k v, rest)
unfolding field
field_is {n} {c} t f rest ty nm r p = seq _ type_ t (n ++ (f ++ c)) rest (type_is _ ty) (seq _ name n (f ++ c) rest (name_is nm _) (seq _ first f c rest (first_is (c ++ rest) r (next_is (λ k. is_sign s.Assign k ≡ false) rest p end_is_no_assign)) (via _ (sign_is p rest) refl)))

map_is : {v n o r c : NumberedLexemes} {at at1 at2 at3 at4 : ℕ} {bytes : List ℕ} {key k : Ty} {pairs : List (Const × Const)} (t1 t2 e rest : NumberedLexemes) → Is (WordOf w.Map) v at1 → Is (NameOf bytes) n at → Is (SignOf s.Colon) o at2 → SpellsType t1 key → Is (SignOf s.Arrow) r at3 → SpellsType t2 k → SpellsEntries e pairs → Is (SignOf s.Semicolon) c at4 → map ((v ++ (n ++ (o ++ (t1 ++ (r ++ (t2 ++ (e ++ c))))))) ++ rest) ≡ Ok (m.Map at bytes key k pairs, rest)
unfolding map
map_is {v} {n} {o} {r} {c} t1 t2 e rest p1 nm p2 ty1 p3 ty2 u p4 = seq _ (word w.Map) v (n ++ (o ++ (t1 ++ (r ++ (t2 ++ (e ++ c)))))) rest (word_is p1 _) (seq _ name n (o ++ (t1 ++ (r ++ (t2 ++ (e ++ c))))) rest (name_is nm _) (seq _ (sign s.Colon) o (t1 ++ (r ++ (t2 ++ (e ++ c)))) rest (sign_is p2 _) (seq _ type_ t1 (r ++ (t2 ++ (e ++ c))) rest (type_is _ ty1) (seq _ (sign s.Arrow) r (t2 ++ (e ++ c)) rest (sign_is p3 _) (seq _ type_ t2 (e ++ c) rest (type_is _ ty2) (seq _ entries e c rest (entries_is (c ++ rest) u (next_is (λ k. is_sign s.Assign k ≡ false) rest p4 end_is_no_assign)) (via _ (sign_is p4 rest) refl)))))))

method_is : {v n o c d : NumberedLexemes} {at at1 at2 at3 at4 : ℕ} {bytes : List ℕ} {params : List Param} {answer : Ty} {x : _} (q t b rest : NumberedLexemes) → Is (WordOf w.Method) v at1 → Is (NameOf bytes) n at → Is (SignOf s.OpenParen) o at2 → SpellsList SpellsParam q params → Is (SignOf s.CloseParen) c at3 → Is (SignOf s.Colon) d at4 → SpellsType t answer → SpellsBlock b x → method ((v ++ (n ++ (o ++ (q ++ (c ++ (d ++ (t ++ b))))))) ++ rest) ≡ Ok (m.Method at bytes params answer x, rest)
unfolding method
method_is {v} {n} {o} {c} {d} q t b rest p1 nm p2 r p3 p4 ty u = seq _ (word w.Method) v (n ++ (o ++ (q ++ (c ++ (d ++ (t ++ b)))))) rest (word_is p1 _) (seq _ name n (o ++ (q ++ (c ++ (d ++ (t ++ b))))) rest (name_is nm _) (seq _ (sign s.OpenParen) o (q ++ (c ++ (d ++ (t ++ b)))) rest (sign_is p2 _) (seq _ (list_of s.Comma s.CloseParen param) q (c ++ (d ++ (t ++ b))) rest (list_reads SpellsParam param (λ M. param_law) param_is s.CloseParen param_begins r ((c ++ (d ++ (t ++ b))) ++ rest) (next_assoc (λ k. is_sign s.Comma k ≡ false) c (d ++ (t ++ b)) rest (next_is (λ k. is_sign s.Comma k ≡ false) ((d ++ (t ++ b)) ++ rest) p3 paren_is_no_comma)) (next_assoc (λ k. is_sign s.CloseParen k ≡ true) c (d ++ (t ++ b)) rest (next_is (λ k. is_sign s.CloseParen k ≡ true) ((d ++ (t ++ b)) ++ rest) p3 (is_sign_self s.CloseParen)))) (seq _ (sign s.CloseParen) c (d ++ (t ++ b)) rest (sign_is p3 _) (seq _ (sign s.Colon) d (t ++ b) rest (sign_is p4 _) (seq _ type_ t b rest (type_is _ ty) (via _ (block_reads u rest) refl)))))))

field_chosen : {a : NumberedLexemes} {k : Ty} (b rest : NumberedLexemes) → SpellsType a k → member ((a ++ b) ++ rest) ≡ field ((a ++ b) ++ rest)
unfolding member
field_chosen b rest (SpellsType.num (is at)) = refl
field_chosen b rest (SpellsType.flag (is at)) = refl
field_chosen b rest (SpellsType.addr (is at)) = refl

map_chosen : {v : NumberedLexemes} {at : ℕ} (b rest : NumberedLexemes) → Is (WordOf w.Map) v at → member ((v ++ b) ++ rest) ≡ map ((v ++ b) ++ rest)
unfolding member
map_chosen b rest (is at) = refl

method_chosen : {v : NumberedLexemes} {at : ℕ} (b rest : NumberedLexemes) → Is (WordOf w.Method) v at → member ((v ++ b) ++ rest) ≡ method ((v ++ b) ++ rest)
unfolding member
method_chosen b rest (is at) = refl

member_is : {a : NumberedLexemes} {x : Member} (rest : NumberedLexemes) → SpellsMember a x → member (a ++ rest) ≡ Ok (x, rest)
member_is rest (SpellsMember.field {t = t} {n = n} {f = f} {c = c} ty nm r p) = field_chosen (n ++ (f ++ c)) rest ty ∙ field_is t f rest ty nm r p
member_is rest (SpellsMember.map {n = n} {s = o} {k = t1} {r = r} {v = t2} {e = e} {c = c} v nm p ty1 p2 ty2 u p3) = map_chosen (n ++ (o ++ (t1 ++ (r ++ (t2 ++ (e ++ c)))))) rest v ∙ map_is t1 t2 e rest v nm p ty1 p2 ty2 u p3
member_is rest (SpellsMember.method {n = n} {o = o} {p = q} {c = c} {s = d} {t = t} {b = b} v nm p r p2 p3 ty u) = method_chosen (n ++ (o ++ (q ++ (c ++ (d ++ (t ++ b)))))) rest v ∙ method_is q t b rest v nm p r p2 p3 ty u

type_begins : {a : NumberedLexemes} {k : Ty} (b : NumberedLexemes) → SpellsType a k → is_sign s.CloseBrace (next (a ++ b)) ≡ false
unfolding is_sign
type_begins b (SpellsType.num (is at)) = refl
type_begins b (SpellsType.flag (is at)) = refl
type_begins b (SpellsType.addr (is at)) = refl

member_begins : {a : NumberedLexemes} {x : Member} (rest : NumberedLexemes) → SpellsMember a x → is_sign s.CloseBrace (next (a ++ rest)) ≡ false
unfolding is_sign
member_begins rest (SpellsMember.field (SpellsType.num (is at)) nm r p) = refl
member_begins rest (SpellsMember.field (SpellsType.flag (is at)) nm r p) = refl
member_begins rest (SpellsMember.field (SpellsType.addr (is at)) nm r p) = refl
member_begins rest (SpellsMember.map (is at) nm p ty1 p2 ty2 u p3) = refl
member_begins rest (SpellsMember.method (is at) nm p r p2 p3 ty u) = refl

-- ---- objects

opens_members : (ls : NumberedLexemes) → until (is_sign s.CloseBrace) member ls ≡ until_turn (is_sign s.CloseBrace) member (until (is_sign s.CloseBrace) member) ls
opens_members ls = until_is SpellsMember (SpellsAll SpellsMember) (is_sign s.CloseBrace) member_len SpellsAll.none (λ a b x xs r rs. SpellsAll.some r rs) member (λ M. member_law) ls

members_read : {a : NumberedLexemes} {xs : List Member} → SpellsAll SpellsMember a xs → (rest : NumberedLexemes) → is_sign s.CloseBrace (next rest) ≡ true → until (is_sign s.CloseBrace) member (a ++ rest) ≡ Ok (xs, rest)
members_read SpellsAll.none rest h = until_ends (is_sign s.CloseBrace) member opens_members rest h
members_read (SpellsAll.some {a = a} {b = b} p q) rest h = until_goes (is_sign s.CloseBrace) member opens_members a b rest (member_begins (b ++ rest) p) (member_is (b ++ rest) p) (members_read q rest h)

object_is : {a : NumberedLexemes} {x : ObjectDecl} (rest : NumberedLexemes) → SpellsObject a x → object (a ++ rest) ≡ Ok (x, rest)
unfolding object
object_is rest (SpellsObject.object {w = v} {n = n} {o = o} {m = a} {c = c} p1 nm p2 r p3) = seq _ (word w.Object) v (n ++ (o ++ (a ++ c))) rest (word_is p1 _) (seq _ name n (o ++ (a ++ c)) rest (name_is nm _) (seq _ (sign s.OpenBrace) o (a ++ c) rest (sign_is p2 _) (seq _ (until (is_sign s.CloseBrace) member) a c rest (members_read r (c ++ rest) (next_is (λ k. is_sign s.CloseBrace k ≡ true) rest p3 (is_sign_self s.CloseBrace))) (via _ (sign_is p3 rest) refl))))

object_begins : {a : NumberedLexemes} {x : ObjectDecl} (rest : NumberedLexemes) → SpellsObject a x → at_end (next (a ++ rest)) ≡ false
object_begins rest (SpellsObject.object (is at) nm p2 r p3) = refl

pub opens_objects : (ls : NumberedLexemes) → until at_end object ls ≡ until_turn at_end object (until at_end object) ls
opens_objects ls = until_is SpellsObject (SpellsAll SpellsObject) at_end object_len SpellsAll.none (λ a b x xs r rs. SpellsAll.some r rs) object (λ M. object_law) ls

objects_read : {a : NumberedLexemes} {xs : List ObjectDecl} → SpellsAll SpellsObject a xs → until at_end object (a ++ []) ≡ Ok (xs, [])
objects_read SpellsAll.none = until_ends at_end object opens_objects [] refl
objects_read (SpellsAll.some {a = a} {b = b} p q) = until_goes at_end object opens_objects a b [] (object_begins (b ++ []) p) (object_is (b ++ []) p) (objects_read q)

file_step : {x : ObjectDecl} {xs : List ObjectDecl} (a b : NumberedLexemes) → SpellsObject a x → SpellsAll SpellsObject b xs → file ((a ++ b) ++ []) ≡ Ok (record { objects = x ∷ xs }, [])
unfolding file
file_step a b p q = seq _ object a b [] (object_is (b ++ []) p) (via _ (objects_read q) refl)

-- the lexemes that spell a tree are read as that tree, to the end
pub file_reads : {ls : NumberedLexemes} {tree : Tree} → SpellsFile ls tree → file ls ≡ Ok (tree, [])
file_reads (SpellsFile.file {a = a} {b = b} p q) = ap file (sym (append_nil (a ++ b))) ∙ file_step a b p q
