-- What the loops over pairs, parameters, members and objects keep.
use Rattle.std.proofs.Common.{◌≡◌, ◌≤◌, Bool, true, false, cond, List, [], ◌∷◌, ◌++◌, length, Ok, Err, sym, ap, subst, ◌∙◌, arith}
use Rattle.ecf_grammar.specs.declared.tokens.Sign.{Sign}
use Rattle.ecf_grammar.specs.declared.tokens.Sign.TheVariants as s
use Rattle.ecf_lang.specs.declared.tree.Const.{Const}
use Rattle.ecf_lang.specs.declared.tree.Param.{Param}
use Rattle.ecf_lang.specs.declared.tree.Member.{Member}
use Rattle.ecf_lang.specs.declared.tree.ObjectDecl.{ObjectDecl}
use Rattle.ecf_grammar.specs.Lexemes.{NumberedLexemes}
use Rattle.ecf_grammar.specs.Spells.{SpellsEntry, SpellsParam, SpellsAll, SpellsMore, SpellsMember, SpellsObject}
use Rattle.ecf_parser.specs.Parsers.{Parse, Parser, and_then, ◌>>=◌, pure, next, behind, eat_sign, each, each_turn, until, until_turn, front, is_sign, list_of}
use Rattle.ecf_parser.specs.Descent.{entry, param, member, object, at_end}
use Rattle.ecf_parser.proofs.StepLaws.{each_is, until_is}
use Rattle.ecf_parser.proofs.FileLaws.{entry_law, param_law, member_law, member_len, object_law, object_len}
use Rattle.ecf_parser.proofs.LoopLaws.{front_one, each_more, each_stuck, each_over, until_more, until_stuck, until_over}
use Rattle.ecf_parser.proofs.TakeLaws.{via, listed_none}

-- ---- whether or not a sign is taken, no more lexemes are left

behind_len : (ls : NumberedLexemes) → length (behind ls) ≤ length ls
behind_len [] = omega arith
behind_len (l ∷ ls) = omega arith

abbrev left_of : {A : Type 0} → Parse A → NumberedLexemes
left_of (Ok p) = p.1
left_of (Err e) = e

eaten_by : (test found : Bool) (ls rest : NumberedLexemes) → cond {A = Parse Bool} test (Ok (true, behind ls)) (Ok (false, ls)) ≡ Ok (found, rest) → length rest ≤ length ls
eaten_by true found ls rest h = let e : behind ls ≡ rest = ap left_of h in subst (λ x. length x ≤ length ls) e (behind_len ls)
eaten_by false found ls rest h = let e : ls ≡ rest = ap left_of h in subst (λ x. length x ≤ length ls) e (omega arith)

pub eaten_len : (t : Sign) (found : Bool) (ls rest : NumberedLexemes) → eat_sign t ls ≡ Ok (found, rest) → length rest ≤ length ls
unfolding eat_sign
eaten_len t found ls rest h = eaten_by (is_sign t (next ls)) found ls rest h

-- ---- some with commas between

module _ {A : Type 0} (close : Sign) (item : Parser A) where
  listed_open : (ls : NumberedLexemes) → is_sign close (next ls) ≡ false → list_of s.Comma close item ls ≡ and_then (item ls) (λ x. each s.Comma item >>= (λ xs. pure (x ∷ xs)))
  unfolding list_of
  listed_open ls h = ap (λ b. cond b (Ok ([], ls)) (and_then (item ls) (λ x. each s.Comma item >>= (λ xs. pure (x ∷ xs))))) h

  listed_first : (ls rest : NumberedLexemes) → is_sign close (next ls) ≡ false → item ls ≡ Err rest → list_of s.Comma close item ls ≡ Err rest
  listed_first ls rest h e = listed_open ls h ∙ ap (λ o. and_then o (λ x. each s.Comma item >>= (λ xs. pure (x ∷ xs)))) e

  listed_some : (ls mid : NumberedLexemes) (x : A) → is_sign close (next ls) ≡ false → item ls ≡ Ok (x, mid) → front (x ∷ []) (each s.Comma item mid) ≡ list_of s.Comma close item ls
  listed_some ls mid x h e = sym (listed_open ls h ∙ via _ e (sym (front_one x (each s.Comma item mid))))

-- ---- pairs

entry_opens : (ls : NumberedLexemes) → each s.Comma entry ls ≡ each_turn s.Comma entry (each s.Comma entry) ls
entry_opens ls = each_is SpellsEntry (SpellsMore SpellsEntry) s.Comma SpellsMore.none (λ c a b at x xs p r rs. SpellsMore.more p r rs) entry (λ M. entry_law) ls

pub pairs_more : (xs : List (Const × Const)) (ls mid rest : NumberedLexemes) (x : Const × Const) → eat_sign s.Comma ls ≡ Ok (true, mid) → entry mid ≡ Ok (x, rest) → front xs (each s.Comma entry ls) ≡ front (xs ++ x ∷ []) (each s.Comma entry rest)
pairs_more = each_more s.Comma entry entry_opens

pub pairs_stuck : (xs : List (Const × Const)) (ls mid rest : NumberedLexemes) → eat_sign s.Comma ls ≡ Ok (true, mid) → entry mid ≡ Err rest → front xs (each s.Comma entry ls) ≡ Err rest
pairs_stuck = each_stuck s.Comma entry entry_opens

pub pairs_over : (xs : List (Const × Const)) (ls mid : NumberedLexemes) → eat_sign s.Comma ls ≡ Ok (false, mid) → front xs (each s.Comma entry ls) ≡ Ok (xs, mid)
pairs_over = each_over s.Comma entry entry_opens

pub pairs_none : (ls : NumberedLexemes) → is_sign s.CloseBrace (next ls) ≡ true → list_of s.Comma s.CloseBrace entry ls ≡ Ok ([], ls)
pairs_none ls h = listed_none s.Comma s.CloseBrace entry ls h

pub pairs_first : (ls rest : NumberedLexemes) → is_sign s.CloseBrace (next ls) ≡ false → entry ls ≡ Err rest → list_of s.Comma s.CloseBrace entry ls ≡ Err rest
pairs_first = listed_first s.CloseBrace entry

pub pairs_some : (ls mid : NumberedLexemes) (x : Const × Const) → is_sign s.CloseBrace (next ls) ≡ false → entry ls ≡ Ok (x, mid) → front (x ∷ []) (each s.Comma entry mid) ≡ list_of s.Comma s.CloseBrace entry ls
pairs_some = listed_some s.CloseBrace entry

-- ---- parameters

param_opens : (ls : NumberedLexemes) → each s.Comma param ls ≡ each_turn s.Comma param (each s.Comma param) ls
param_opens ls = each_is SpellsParam (SpellsMore SpellsParam) s.Comma SpellsMore.none (λ c a b at x xs p r rs. SpellsMore.more p r rs) param (λ M. param_law) ls

pub params_more : (xs : List Param) (ls mid rest : NumberedLexemes) (x : Param) → eat_sign s.Comma ls ≡ Ok (true, mid) → param mid ≡ Ok (x, rest) → front xs (each s.Comma param ls) ≡ front (xs ++ x ∷ []) (each s.Comma param rest)
params_more = each_more s.Comma param param_opens

pub params_stuck : (xs : List Param) (ls mid rest : NumberedLexemes) → eat_sign s.Comma ls ≡ Ok (true, mid) → param mid ≡ Err rest → front xs (each s.Comma param ls) ≡ Err rest
params_stuck = each_stuck s.Comma param param_opens

pub params_over : (xs : List Param) (ls mid : NumberedLexemes) → eat_sign s.Comma ls ≡ Ok (false, mid) → front xs (each s.Comma param ls) ≡ Ok (xs, mid)
params_over = each_over s.Comma param param_opens

pub params_none : (ls : NumberedLexemes) → is_sign s.CloseParen (next ls) ≡ true → list_of s.Comma s.CloseParen param ls ≡ Ok ([], ls)
params_none ls h = listed_none s.Comma s.CloseParen param ls h

pub params_first : (ls rest : NumberedLexemes) → is_sign s.CloseParen (next ls) ≡ false → param ls ≡ Err rest → list_of s.Comma s.CloseParen param ls ≡ Err rest
params_first = listed_first s.CloseParen param

pub params_some : (ls mid : NumberedLexemes) (x : Param) → is_sign s.CloseParen (next ls) ≡ false → param ls ≡ Ok (x, mid) → front (x ∷ []) (each s.Comma param mid) ≡ list_of s.Comma s.CloseParen param ls
params_some = listed_some s.CloseParen param

-- ---- members

member_opens : (ls : NumberedLexemes) → until (is_sign s.CloseBrace) member ls ≡ until_turn (is_sign s.CloseBrace) member (until (is_sign s.CloseBrace) member) ls
member_opens ls = until_is SpellsMember (SpellsAll SpellsMember) (is_sign s.CloseBrace) member_len SpellsAll.none (λ a b x xs r rs. SpellsAll.some r rs) member (λ M. member_law) ls

pub members_more : (xs : List Member) (ls rest : NumberedLexemes) (x : Member) → is_sign s.CloseBrace (next ls) ≡ false → member ls ≡ Ok (x, rest) → front xs (until (is_sign s.CloseBrace) member ls) ≡ front (xs ++ x ∷ []) (until (is_sign s.CloseBrace) member rest)
members_more = until_more (is_sign s.CloseBrace) member member_opens

pub members_stuck : (xs : List Member) (ls rest : NumberedLexemes) → is_sign s.CloseBrace (next ls) ≡ false → member ls ≡ Err rest → front xs (until (is_sign s.CloseBrace) member ls) ≡ Err rest
members_stuck = until_stuck (is_sign s.CloseBrace) member member_opens

pub members_over : (xs : List Member) (ls : NumberedLexemes) → is_sign s.CloseBrace (next ls) ≡ true → front xs (until (is_sign s.CloseBrace) member ls) ≡ Ok (xs, ls)
members_over = until_over (is_sign s.CloseBrace) member member_opens

-- ---- objects

object_opens : (ls : NumberedLexemes) → until at_end object ls ≡ until_turn at_end object (until at_end object) ls
object_opens ls = until_is SpellsObject (SpellsAll SpellsObject) at_end object_len SpellsAll.none (λ a b x xs r rs. SpellsAll.some r rs) object (λ M. object_law) ls

pub objects_more : (xs : List ObjectDecl) (ls rest : NumberedLexemes) (x : ObjectDecl) → at_end (next ls) ≡ false → object ls ≡ Ok (x, rest) → front xs (until at_end object ls) ≡ front (xs ++ x ∷ []) (until at_end object rest)
objects_more = until_more at_end object object_opens

pub objects_stuck : (xs : List ObjectDecl) (ls rest : NumberedLexemes) → at_end (next ls) ≡ false → object ls ≡ Err rest → front xs (until at_end object ls) ≡ Err rest
objects_stuck = until_stuck at_end object object_opens

pub objects_over : (xs : List ObjectDecl) (ls : NumberedLexemes) → at_end (next ls) ≡ true → front xs (until at_end object ls) ≡ Ok (xs, ls)
objects_over = until_over at_end object object_opens
