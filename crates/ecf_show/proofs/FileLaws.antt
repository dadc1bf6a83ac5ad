-- What was written of the parts of a member or an object is the whole of it.
use Rattle.std.proofs.Common.{◌≡◌, ℕ, ◌-◌, ◌≤◌, List, [], ◌∷◌, ◌++◌, map, length, get_or, take, drop, Option, Some, Result, ap, sym, ◌∙◌, append_assoc, arith}
use Rattle.std.specs.Prelude.{OnOk}
use Rattle.std.specs.List.{flat_map}
use Rattle.ecf_grammar.specs.declared.tokens.Word.TheVariants as word
use Rattle.ecf_grammar.specs.declared.tokens.Sign.TheVariants as sign
use Rattle.ecf_lang.specs.declared.tree.Ty.{Ty}
use Rattle.ecf_lang.specs.declared.tree.Const.{Const}
use Rattle.ecf_lang.specs.declared.tree.Param.{Param}
use Rattle.ecf_lang.specs.declared.tree.Block.{Block}
use Rattle.ecf_lang.specs.declared.tree.Member.{Member}
use Rattle.ecf_lang.specs.declared.tree.Member.TheVariants as member
use Rattle.ecf_lang.specs.declared.tree.ObjectDecl.{ObjectDecl}
use Rattle.ecf_show.specs.Marks.{Wrote, name_mark, word_mark, sign_mark, spaced, comma, joined, in_parentheses}
use Rattle.ecf_show.specs.Marks.Mark.{Space, Line}
use Rattle.ecf_show.specs.Statements.{type_mark, declared, semicolon, lines_of, braced, block_marks}
use Rattle.ecf_show.specs.Files.{const_mark, first_marks, entry_marks, entries_marks, param_marks, member_marks, object_marks}
use Rattle.ecf_show.proofs.TextLaws.{wrote_then}
use Rattle.ecf_show.proofs.ExpressionLaws.{on_ok_then, wrote_as, wrote_three, list_written}
use Rattle.ecf_show.proofs.StatementLaws.{braced_some}

pub field_written : (m : Member) (at : ℕ) (kind : Ty) (name : List ℕ) (value : Option Const) (t0 t1 t2 t3 t4 t5 : List ℕ) → m ≡ member.Field at name kind value → Wrote t0 t1 (type_mark kind ∷ []) → Wrote t1 t2 (Space ∷ []) → Wrote t2 t3 (name_mark name ∷ []) → Wrote t3 t4 (first_marks value) → Wrote t4 t5 semicolon → Wrote t0 t5 (member_marks m)
field_written m at kind name value t0 t1 t2 t3 t4 t5 is typed space named first ended =
    wrote_as t0 t5 _ (member_marks m) (ap member_marks (sym is)) (wrote_three t0 t1 t2 t5 (type_mark kind ∷ []) (Space ∷ []) (name_mark name ∷ first_marks value ++ semicolon) typed space
    (wrote_three t2 t3 t4 t5 (name_mark name ∷ []) (first_marks value) semicolon named first ended))

pub map_written : (m : Member) (at : ℕ) (name : List ℕ) (key value : Ty) (entries : List (Const × Const)) (t0 t1 t2 t3 t4 t5 t6 : List ℕ) → m ≡ member.Map at name key value entries → Wrote t0 t1 (word_mark word.Map ∷ Space ∷ []) → Wrote t1 t2 (declared name key) → Wrote t2 t3 (spaced sign.Arrow) → Wrote t3 t4 (type_mark value ∷ []) → Wrote t4 t5 (entries_marks entries) → Wrote t5 t6 semicolon → Wrote t0 t6 (member_marks m)
map_written m at name key value entries t0 t1 t2 t3 t4 t5 t6 is first named arrow typed each ended =
    wrote_as t0 t6 _ (member_marks m) (ap member_marks (sym is)) (wrote_three t0 t1 t2 t6 (word_mark word.Map ∷ Space ∷ []) (declared name key) (spaced sign.Arrow ++ (type_mark value ∷ (entries_marks entries ++ semicolon))) first named
    (wrote_three t2 t3 t4 t6 (spaced sign.Arrow) (type_mark value ∷ []) (entries_marks entries ++ semicolon) arrow typed
    (wrote_then t4 t5 t6 (entries_marks entries) semicolon each ended)))

pub method_written : {A E : Type 0} (r : Result A E) (m : Member) (at : ℕ) (name : List ℕ) (params : List Param) (answer : Ty) (body : Block) (t0 t1 t2 t3 t4 t5 t6 t7 t8 : List ℕ) → m ≡ member.Method at name params answer body → Wrote t0 t1 (word_mark word.Method ∷ Space ∷ []) → Wrote t1 t2 (name_mark name ∷ []) → Wrote t2 t3 (sign_mark sign.OpenParen ∷ []) → Wrote t3 t4 (joined comma (map param_marks params)) → Wrote t4 t5 (sign_mark sign.CloseParen ∷ sign_mark sign.Colon ∷ Space ∷ []) → Wrote t5 t6 (type_mark answer ∷ []) → Wrote t6 t7 (Space ∷ []) → OnOk r (Wrote t7 t8 (block_marks body 1)) → OnOk r (Wrote t0 t8 (member_marks m))
method_written r m at name params answer body t0 t1 t2 t3 t4 t5 t6 t7 t8 is first named opened each closed typed space block =
    let list = joined comma (map param_marks params) in
    let rest = sign_mark sign.Colon ∷ Space ∷ type_mark answer ∷ Space ∷ block_marks body 1 in
    on_ok_then r (Wrote t7 t8 (block_marks body 1)) (Wrote t0 t8 (member_marks m)) block (λ written.
    wrote_as t0 t8 (member_marks (member.Method at name params answer body)) (member_marks m) (ap member_marks (sym is))
    (wrote_three t0 t1 t2 t8 (word_mark word.Method ∷ Space ∷ []) (name_mark name ∷ []) (in_parentheses list ++ rest) first named
    (wrote_as t2 t8 (sign_mark sign.OpenParen ∷ (list ++ (sign_mark sign.CloseParen ∷ rest))) (in_parentheses list ++ rest) (ap (λ marks. sign_mark sign.OpenParen ∷ marks) (sym (append_assoc list (sign_mark sign.CloseParen ∷ []) rest)))
    (wrote_three t2 t3 t4 t8 (sign_mark sign.OpenParen ∷ []) list (sign_mark sign.CloseParen ∷ rest) opened each
    (wrote_three t4 t5 t6 t8 (sign_mark sign.CloseParen ∷ sign_mark sign.Colon ∷ Space ∷ []) (type_mark answer ∷ []) (Space ∷ block_marks body 1) closed typed
    (wrote_then t6 t7 t8 (Space ∷ []) (block_marks body 1) space written))))))

-- an object without members
pub empty_object_written : {A E : Type 0} (r : Result A E) (object : ObjectDecl) (t0 t1 t2 t3 : List ℕ) → object.members ≡ [] → Wrote t0 t1 (word_mark word.Object ∷ Space ∷ []) → Wrote t1 t2 (name_mark object.name ∷ []) → OnOk r (Wrote t2 t3 (Space ∷ sign_mark sign.OpenBrace ∷ Space ∷ sign_mark sign.CloseBrace ∷ Line 0 ∷ [])) → OnOk r (Wrote t0 t3 (object_marks object))
empty_object_written r object t0 t1 t2 t3 none first named closed =
    on_ok_then r (Wrote t2 t3 (Space ∷ sign_mark sign.OpenBrace ∷ Space ∷ sign_mark sign.CloseBrace ∷ Line 0 ∷ [])) (Wrote t0 t3 (object_marks object)) closed (λ written.
    wrote_as t0 t3 _ (object_marks object) (ap (λ ms. word_mark word.Object ∷ Space ∷ name_mark object.name ∷ Space ∷ braced 0 (map (λ m depth. member_marks m) ms) ++ Line 0 ∷ []) (sym none))
    (wrote_three t0 t1 t2 t3 (word_mark word.Object ∷ Space ∷ []) (name_mark object.name ∷ []) (Space ∷ sign_mark sign.OpenBrace ∷ Space ∷ sign_mark sign.CloseBrace ∷ Line 0 ∷ []) first named written))

-- an object with members
pub object_written : {A E : Type 0} (r : Result A E) (object : ObjectDecl) (t0 t1 t2 t3 t4 t5 : List ℕ) → (object.members ≡ [] → ⊥) → Wrote t0 t1 (word_mark word.Object ∷ Space ∷ []) → Wrote t1 t2 (name_mark object.name ∷ []) → Wrote t2 t3 (Space ∷ sign_mark sign.OpenBrace ∷ []) → Wrote t3 t4 (lines_of 1 (map (λ m depth. member_marks m) object.members)) → OnOk r (Wrote t4 t5 (Line 0 ∷ sign_mark sign.CloseBrace ∷ Line 0 ∷ [])) → OnOk r (Wrote t0 t5 (object_marks object))
object_written r object t0 t1 t2 t3 t4 t5 some first named opened lines closed =
    let all = lines_of 1 (map (λ m depth. member_marks m) object.members) in
    let body = sym (append_assoc (sign_mark sign.OpenBrace ∷ all) (Line 0 ∷ sign_mark sign.CloseBrace ∷ []) (Line 0 ∷ [])) ∙ ap (λ ms. ms ++ Line 0 ∷ []) (braced_some 0 (λ m depth. member_marks m) object.members some) in
    on_ok_then r (Wrote t4 t5 (Line 0 ∷ sign_mark sign.CloseBrace ∷ Line 0 ∷ [])) (Wrote t0 t5 (object_marks object)) closed (λ written.
    wrote_as t0 t5 _ (object_marks object) (ap (λ ms. word_mark word.Object ∷ Space ∷ name_mark object.name ∷ Space ∷ ms) body)
    (wrote_three t0 t1 t2 t5 (word_mark word.Object ∷ Space ∷ []) (name_mark object.name ∷ []) (Space ∷ sign_mark sign.OpenBrace ∷ all ++ Line 0 ∷ sign_mark sign.CloseBrace ∷ Line 0 ∷ []) first named
    (wrote_three t2 t3 t4 t5 (Space ∷ sign_mark sign.OpenBrace ∷ []) all (Line 0 ∷ sign_mark sign.CloseBrace ∷ Line 0 ∷ []) opened lines written)))

pub entry_written : {A E : Type 0} (r : Result A E) (entry : Const × Const) (t0 t1 t2 t3 : List ℕ) → Wrote t0 t1 (const_mark entry.0 ∷ []) → Wrote t1 t2 (sign_mark sign.Colon ∷ Space ∷ []) → OnOk r (Wrote t2 t3 (const_mark entry.1 ∷ [])) → OnOk r (Wrote t0 t3 (entry_marks entry))
entry_written r entry t0 t1 t2 t3 key colon value =
    on_ok_then r (Wrote t2 t3 (const_mark entry.1 ∷ [])) (Wrote t0 t3 (entry_marks entry)) value (λ written. wrote_three t0 t1 t2 t3 (const_mark entry.0 ∷ []) (sign_mark sign.Colon ∷ Space ∷ []) (const_mark entry.1 ∷ []) key colon written)

pub first_written : {A E : Type 0} (r : Result A E) (first : Option Const) (value : Const) (t0 t1 t2 : List ℕ) → first ≡ Some value → Wrote t0 t1 (spaced sign.Assign) → OnOk r (Wrote t1 t2 (const_mark value ∷ [])) → OnOk r (Wrote t0 t2 (first_marks first))
first_written r first value t0 t1 t2 is assigns one =
    on_ok_then r (Wrote t1 t2 (const_mark value ∷ [])) (Wrote t0 t2 (first_marks first)) one (λ written.
    wrote_as t0 t2 _ (first_marks first) (ap first_marks (sym is)) (wrote_then t0 t1 t2 (spaced sign.Assign) (const_mark value ∷ []) assigns written))

-- all entries, of which the first was written, and in a loop the others
pub entries_written : {A E : Type 0} (r : Result A E) (entries : List (Const × Const)) (first : Const × Const) (i : ℕ) (t0 t1 t2 t3 t4 : List ℕ) → 1 ≤ length entries → first ≡ get_or entries 0 first
    → Wrote t0 t1 (spaced sign.Assign ++ sign_mark sign.OpenBrace ∷ Space ∷ []) → Wrote t1 t2 (entry_marks first)
    → Wrote t2 t3 (flat_map (λ entry. comma ++ entry_marks entry) (take i (take (length entries - 1) (drop 1 entries)))) → length (take (length entries - 1) (drop 1 entries)) ≤ i
    → OnOk r (Wrote t3 t4 (Space ∷ sign_mark sign.CloseBrace ∷ [])) → OnOk r (Wrote t0 t4 (entries_marks entries))
entries_written r [] first i t0 t1 t2 t3 t4 some is opened one more ended closed = absurd (omega (arith, some))
entries_written r (entry ∷ entries) first i t0 t1 t2 t3 t4 some is opened one more ended closed =
    let all = joined comma (map entry_marks (entry ∷ entries)) in
    on_ok_then r (Wrote t3 t4 (Space ∷ sign_mark sign.CloseBrace ∷ [])) (Wrote t0 t4 (entries_marks (entry ∷ entries))) closed (λ written.
    wrote_three t0 t1 t3 t4 (spaced sign.Assign ++ sign_mark sign.OpenBrace ∷ Space ∷ []) all (Space ∷ sign_mark sign.CloseBrace ∷ []) opened
    (list_written comma entry_marks (entry ∷ entries) first i t1 t2 t3 some is one more ended) written)
