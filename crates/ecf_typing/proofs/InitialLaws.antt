-- Initial values and keys.
use Rattle.std.proofs.Common.{◌≡◌, ℕ, ◌+◌, ◌<◌, ◌==◌, Bool, true, false, ◌||◌, List, [], ◌∷◌, ◌++◌, map, length, drop, get_or, Option, Some, None, if◌then◌else◌, refl, sym, ap, ◌∙◌}
use Rattle.std.specs.Option.{is_none}
use Rattle.std.specs.List.{list_any}
use Rattle.std.proofs.lemmas.List.{append-nil, drop_more}
use Rattle.ecf_lang.specs.declared.tree.Ty.{Ty}
use Rattle.ecf_lang.specs.declared.tree.Const.{Const}
use Rattle.ecf_lang.specs.declared.tree.Const.TheVariants as const
use Rattle.ecf_faults.specs.declared.What.TheVariants as what
use Rattle.ecf_faults.specs.declared.Fault.{Fault}
use Rattle.ecf_faults.specs.Tables.{Table, declaration_of}
use Rattle.ecf_faults.specs.Expressions.{Report, fault_if, type_faults}
use Rattle.ecf_faults.specs.Declarations.{name_report, const_report, is_type, key_faults}
use Rattle.ecf_faults.specs.Least.{least_with}
use Rattle.ecf_typing.specs.declared.form.Summary.{Summary}
use Rattle.ecf_typing.specs.Summaries.{summary_of, SummarizesFor}
use Rattle.ecf_typing.proofs.LoopLaws.{then_more, first_with_both}

-- the faults of an initial value, by its type
const_faults : (objects : Table (ℕ × ℕ)) (c : Const) → (const_report objects c).faults ≡ fault_if (is_none (const_report objects c).ty) (const_report objects c).place what.UnknownName
const_faults objects (const.Number at value) = refl
const_faults objects (const.Flag at value) = refl
const_faults objects (const.Name at name) = by (declaration_of objects name)
  where
    by : (o : Option (ℕ × ℕ)) → (name_report at o).faults ≡ fault_if (is_none (name_report at o).ty) (name_report at o).place what.UnknownName
    by None = refl
    by (Some (object, token)) = refl

pub initial_summary : (objects : Table (ℕ × ℕ)) (c : Const) (want : Ty) (o m n : Option Fault) (missing : Bool) (s : Summary ℕ) → s ≡ summary_of (const_report objects c) → missing ≡ is_none s.ty → m ≡ least_with o (fault_if missing s.place what.UnknownName) → n ≡ least_with m (type_faults (Some want) s.ty s.place) → SummarizesFor (Some want) (const_report objects c) o n s
initial_summary objects c want o m n missing s is none first second = record {
  says = is;
  noted = then_more o m n (const_report objects c).faults (type_faults (Some want) (const_report objects c).ty (const_report objects c).place)
      (first ∙ ap (λ b. least_with o (fault_if b s.place what.UnknownName)) none ∙ ap (λ (x : Summary ℕ). least_with o (fault_if (is_none x.ty) x.place what.UnknownName)) is ∙ ap (least_with o) (sym (const_faults objects c)))
      (second ∙ ap (λ (x : Summary ℕ). least_with m (type_faults (Some want) x.ty x.place)) is);
}

-- ---- keys, by which values are among the earlier ones

abbrev pub AmongBoth : List ℕ → List ℕ → Type 0
AmongBoth a b = (k : ℕ) → list_any (λ value. k == value) a ≡ list_any (λ value. k == value) b

abbrev pub with_key : Ty → List ℕ → Report ℕ → List ℕ
with_key ty earlier key = if is_type ty key.ty then key.form ∷ earlier else earlier

more_among : (ty : Ty) (key : Report ℕ) (a b : List ℕ) → AmongBoth a b → AmongBoth (with_key ty a key) (with_key ty b key)
more_among ty key a b same k = by (is_type ty key.ty)
  where
    by : (t : Bool) → list_any (λ value. k == value) (if t then key.form ∷ a else a) ≡ list_any (λ value. k == value) (if t then key.form ∷ b else b)
    by true = ap (λ found. (k == key.form) || found) (same k)
    by false = same k

-- one key, and those behind it
one_key : (ty : Ty) (earlier : List ℕ) (key : Report ℕ) (keys : List (Report ℕ)) → key_faults ty earlier (key ∷ keys) ≡ key_faults ty earlier (key ∷ []) ++ key_faults ty (with_key ty earlier key) keys
one_key ty earlier key keys = by (is_type ty key.ty)
  where
    by : (t : Bool) → (if t then fault_if (list_any (λ value. key.form == value) earlier) key.place what.TwoKeys ++ key_faults ty (key.form ∷ earlier) keys else key_faults ty earlier keys) ≡ (if t then fault_if (list_any (λ value. key.form == value) earlier) key.place what.TwoKeys ++ [] else []) ++ key_faults ty (if t then key.form ∷ earlier else earlier) keys
    by true = ap (λ fs. fs ++ key_faults ty (key.form ∷ earlier) keys) (sym (append-nil _))
    by false = refl

keys_same : (ty : Ty) (a b : List ℕ) (keys : List (Report ℕ)) → AmongBoth a b → key_faults ty a keys ≡ key_faults ty b keys
keys_same ty a b [] same = refl
keys_same ty a b (key ∷ keys) same =
    by (is_type ty key.ty) (keys_same ty (key.form ∷ a) (key.form ∷ b) keys (λ k. ap (λ found. (k == key.form) || found) (same k))) (keys_same ty a b keys same)
  where
    by : (t : Bool) → key_faults ty (key.form ∷ a) keys ≡ key_faults ty (key.form ∷ b) keys → key_faults ty a keys ≡ key_faults ty b keys → (if t then fault_if (list_any (λ value. key.form == value) a) key.place what.TwoKeys ++ key_faults ty (key.form ∷ a) keys else key_faults ty a keys) ≡ (if t then fault_if (list_any (λ value. key.form == value) b) key.place what.TwoKeys ++ key_faults ty (key.form ∷ b) keys else key_faults ty b keys)
    by true more rest = ap (λ found. fault_if found key.place what.TwoKeys ++ key_faults ty (key.form ∷ a) keys) (same key.form) ∙ ap (λ fs. fault_if (list_any (λ value. key.form == value) b) key.place what.TwoKeys ++ fs) more
    by false more rest = rest

-- what is left of a loop over keys completes what was noted
pub keys_more : {X : Type 0} (ty : Ty) (j : X → Report ℕ) (xs : List X) (i : ℕ) (x : X) (earlier later : List ℕ) (now new whole : Option Fault) → least_with now (key_faults ty earlier (map j (drop i xs))) ≡ whole → i < length xs → x ≡ get_or xs i x → new ≡ least_with now (key_faults ty earlier (j x ∷ [])) → AmongBoth later (with_key ty earlier (j x)) → least_with new (key_faults ty later (map j (drop (i + 1) xs))) ≡ whole
keys_more ty j xs i x earlier later now new whole so_far within at step same =
    let dropped : drop i xs ≡ x ∷ drop (i + 1) xs = drop_more xs i x within ∙ ap (λ y. y ∷ drop (i + 1) xs) (sym at) in
    ap (least_with new) (keys_same ty later (with_key ty earlier (j x)) (map j (drop (i + 1) xs)) same)
    ∙ ap (λ o. least_with o (key_faults ty (with_key ty earlier (j x)) (map j (drop (i + 1) xs)))) step
    ∙ sym (first_with_both now (key_faults ty earlier (j x ∷ [])) _)
    ∙ sym (ap (least_with now) (one_key ty earlier (j x) (map j (drop (i + 1) xs))))
    ∙ sym (ap (λ ys. least_with now (key_faults ty earlier (map j ys))) dropped)
    ∙ so_far
