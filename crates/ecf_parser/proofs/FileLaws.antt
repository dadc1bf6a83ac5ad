-- The readers of members, objects and files do well.
use Rattle.std.proofs.Common.{ℕ, ◌<◌, Bool, true, false, ◌∷◌, ◌++◌, length, Option, Some, arith}
use Rattle.ecf_grammar.specs.declared.tokens.Kind.{Kind}
use Rattle.ecf_grammar.specs.declared.tokens.Kind.TheVariants as kind
use Rattle.ecf_grammar.specs.declared.tokens.Word.TheVariants as w
use Rattle.ecf_grammar.specs.declared.tokens.Sign.TheVariants as s
use Rattle.ecf_lang.specs.declared.tree.Ty.{Ty}
use Rattle.ecf_lang.specs.declared.tree.Const.TheVariants as const
use Rattle.ecf_lang.specs.declared.tree.Member.{Member}
use Rattle.ecf_lang.specs.declared.tree.Member.TheVariants as m
use Rattle.ecf_lang.specs.declared.tree.ObjectDecl.{ObjectDecl}
use Rattle.ecf_grammar.specs.Lexemes.{Lexeme, NumberedLexemes}
use Rattle.ecf_grammar.specs.Lexemes.Lexeme.{SignOf}
use Rattle.ecf_grammar.specs.Spells.{Is, SpellsType, SpellsConst, SpellsEntry, SpellsParam, SpellsAll, SpellsMore, SpellsList, SpellsFirst, SpellsEntries, SpellsMember, SpellsObject, SpellsFile}
use Rattle.ecf_grammar.specs.Spells.Is.{is}
use Rattle.ecf_parser.specs.Parsers.{is_sign}
use Rattle.ecf_parser.specs.Descent.{const_by, constant, entry, param, first_by, first, entries_by, entries, field, map, method, member_by, member, object, at_end, file}
use Rattle.ecf_parser.proofs.ParserLaws.{Lawful, bind, last, nothing, chosen}
use Rattle.ecf_parser.proofs.StepLaws.{Eaten, of_sign, of_word, of_name, of_number, of_eat_sign, of_until, of_listed}
use Rattle.ecf_parser.proofs.StepLaws.Eaten.{eaten, left}
use Rattle.ecf_parser.proofs.StatementLaws.{type_law, block_law}

const_law_by : {N : ℕ} (k : Option Kind) → Lawful N SpellsConst (const_by k) (const_by k)
const_law_by (Some (kind.Number _)) = last (λ n. const.Number n.0 n.1) of_number (λ a n p. SpellsConst.number p)
const_law_by (Some (kind.Word w.True)) = last (λ at. const.Flag at true) (of_word w.True) (λ a at p. SpellsConst.yes p)
const_law_by (Some (kind.Word w.False)) = last (λ at. const.Flag at false) (of_word w.False) (λ a at p. SpellsConst.no p)
const_law_by _ = last (λ n. const.Name n.0 n.1) of_name (λ a n p. SpellsConst.name p)

constant_law : {N : ℕ} → Lawful N SpellsConst constant constant
unfolding constant
constant_law = chosen const_by const_by const_law_by

pub entry_law : {N : ℕ} → Lawful N SpellsEntry entry entry
unfolding entry
entry_law = bind constant_law (λ a key r. bind (of_sign s.Colon) (λ c at p. last (λ v. (key, v)) constant_law (λ b v t. SpellsEntry.entry r p t)))

pub param_law : {N : ℕ} → Lawful N SpellsParam param param
unfolding param
param_law = bind of_name (λ n x nm. bind (of_sign s.Colon) (λ c at p. last (λ k. record { at = x.0; name = x.1; ty = k }) type_law (λ t k r. SpellsParam.param nm p r)))

first_law_by : {N : ℕ} (q : NumberedLexemes) (b : Bool) → Eaten (SignOf s.Assign) q b → Lawful N (λ b y. SpellsFirst (q ++ b) y) (first_by b) (first_by b)
first_law_by q true (eaten p) = last (λ v. Some v) constant_law (λ a v r. SpellsFirst.first p r)
first_law_by q false left = nothing SpellsFirst.no_first

first_law : {N : ℕ} → Lawful N SpellsFirst first first
unfolding first
first_law = bind (of_eat_sign s.Assign) (λ q b p. first_law_by q b p)

entries_law_by : {N : ℕ} (q : NumberedLexemes) (b : Bool) → Eaten (SignOf s.Assign) q b → Lawful N (λ b y. SpellsEntries (q ++ b) y) (entries_by b) (entries_by b)
entries_law_by {N} q true (eaten p) = bind (of_sign s.OpenBrace) (λ o at p1. bind (of_listed SpellsEntry (SpellsMore SpellsEntry) (SpellsList SpellsEntry) s.Comma s.CloseBrace SpellsMore.none (λ c a b at x xs p r rs. SpellsMore.more p r rs) SpellsList.empty (λ a b x xs r rs. SpellsList.list r rs) N entry entry entry_law) (λ a pairs r. last (λ _. pairs) (of_sign s.CloseBrace) (λ c at2 p2. SpellsEntries.entries p p1 r p2)))
entries_law_by q false left = nothing SpellsEntries.no_entries

entries_law : {N : ℕ} → Lawful N SpellsEntries entries entries
unfolding entries
entries_law = bind (of_eat_sign s.Assign) (λ q b p. entries_law_by q b p)

field_law : {N : ℕ} → Lawful N SpellsMember field field
unfolding field
field_law = bind type_law (λ t k r. bind of_name (λ n x nm. bind first_law (λ f v u. last (λ _. m.Field x.0 x.1 k v) (of_sign s.Semicolon) (λ c at p. SpellsMember.field r nm u p))))

map_law : {N : ℕ} → Lawful N SpellsMember map map
unfolding map
map_law = bind (of_word w.Map) (λ v at1 p1. bind of_name (λ n x nm. bind (of_sign s.Colon) (λ o at2 p2. bind type_law (λ t1 key r1. bind (of_sign s.Arrow) (λ a at3 p3. bind type_law (λ t2 k r2. bind entries_law (λ e pairs u. last (λ _. m.Map x.0 x.1 key k pairs) (of_sign s.Semicolon) (λ c at4 p4. SpellsMember.map p1 nm p2 r1 p3 r2 u p4))))))))

method_law : {N : ℕ} → Lawful N SpellsMember method method
unfolding method
method_law {N} = bind (of_word w.Method) (λ v at1 p1. bind of_name (λ n x nm. bind (of_sign s.OpenParen) (λ o at2 p2. bind (of_listed SpellsParam (SpellsMore SpellsParam) (SpellsList SpellsParam) s.Comma s.CloseParen SpellsMore.none (λ c a b at x xs p r rs. SpellsMore.more p r rs) SpellsList.empty (λ a b x xs r rs. SpellsList.list r rs) N param param param_law) (λ q params rp. bind (of_sign s.CloseParen) (λ c at3 p3. bind (of_sign s.Colon) (λ d at4 p4. bind type_law (λ t answer r. last (λ body. m.Method x.0 x.1 params answer body) (block_law N) (λ b body u. SpellsMember.method p1 nm p2 rp p3 p4 r u))))))))

member_law_by : {N : ℕ} (k : Option Kind) → Lawful N SpellsMember (member_by k) (member_by k)
member_law_by (Some (kind.Word w.Map)) = map_law
member_law_by (Some (kind.Word w.Method)) = method_law
member_law_by _ = field_law

pub member_law : {N : ℕ} → Lawful N SpellsMember member member
unfolding member
member_law = chosen member_by member_by member_law_by

front_len : {l : Lexeme} {a : NumberedLexemes} {at : ℕ} (b : NumberedLexemes) → Is l a at → 0 < length (a ++ b)
front_len b (is at) = omega arith

type_len : {a : NumberedLexemes} {k : Ty} (b : NumberedLexemes) → SpellsType a k → 0 < length (a ++ b)
type_len b (SpellsType.num p) = front_len b p
type_len b (SpellsType.flag p) = front_len b p
type_len b (SpellsType.addr p) = front_len b p

pub member_len : (a : NumberedLexemes) (x : Member) → SpellsMember a x → 0 < length a
member_len a x (SpellsMember.field p _ _ _) = type_len _ p
member_len a x (SpellsMember.map p _ _ _ _ _ _ _) = front_len _ p
member_len a x (SpellsMember.method p _ _ _ _ _ _ _) = front_len _ p

pub object_len : (a : NumberedLexemes) (x : ObjectDecl) → SpellsObject a x → 0 < length a
object_len a x (SpellsObject.object p _ _ _ _) = front_len _ p

pub object_law : {N : ℕ} → Lawful N SpellsObject object object
unfolding object
object_law {N} = bind (of_word w.Object) (λ v at1 p1. bind of_name (λ n x nm. bind (of_sign s.OpenBrace) (λ o at2 p2. bind (of_until SpellsMember (SpellsAll SpellsMember) (is_sign s.CloseBrace) member_len SpellsAll.none (λ a b x xs r rs. SpellsAll.some r rs) N member member member_law) (λ a members r. last (λ _. record { at = x.0; name = x.1; members = members }) (of_sign s.CloseBrace) (λ c at3 p3. SpellsObject.object p1 nm p2 r p3)))))

pub file_law : {N : ℕ} → Lawful N SpellsFile file file
unfolding file
file_law {N} = bind object_law (λ a first r. last (λ rest. record { objects = first ∷ rest }) (of_until SpellsObject (SpellsAll SpellsObject) at_end object_len SpellsAll.none (λ a b x xs r rs. SpellsAll.some r rs) N object object object_law) (λ b rest rs. SpellsFile.file r rs))
