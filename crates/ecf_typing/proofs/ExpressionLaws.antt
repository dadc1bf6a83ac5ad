-- What is summary_of of each form of expression, and its faults.
use Rattle.std.proofs.Common.{◌≡◌, ℕ, zero, suc, ◌+◌, ◌<◌, ◌≤◌, Bool, true, false, cond, List, [], ◌∷◌, ◌++◌, map, length, take, drop, get_or, if◌then◌else◌, Option, Some, refl, ap, sym, ◌∙◌, arith, add-one}
use Rattle.std.specs.Prelude.{slice_get}
use Rattle.std.specs.Option.{option_map}
use Rattle.std.specs.Str.{bytes_eq}
use Rattle.std.proofs.lemmas.List.{drop_more, drop_all}
use Rattle.ecf_lang.specs.declared.tree.CallExpr.{CallExpr}
use Rattle.ecf_lang.specs.declared.tree.CallExpr.TheVariants as call
use Rattle.ecf_lang.specs.declared.typed.TypedCall.{TypedCall}
use Rattle.ecf_lang.specs.declared.typed.TypedCall.TheVariants as called
use Rattle.ecf_lang.specs.declared.typed.Signature.{Signature}
use Rattle.ecf_lang.specs.declared.typed.FieldKind.{FieldKind}
use Rattle.std.specs.List.{flat_map}
use Rattle.ecf_lang.specs.declared.tree.Op.{Op}
use Rattle.ecf_lang.specs.declared.tree.Ty.{Ty}
use Rattle.ecf_lang.specs.declared.tree.Ty.TheVariants.{Num, Flag, Addr}
use Rattle.ecf_lang.specs.declared.tree.Expr.{Expr}
use Rattle.ecf_lang.specs.declared.tree.Expr.TheVariants as expr
use Rattle.ecf_lang.specs.declared.typed.TypedExpr.{TypedExpr}
use Rattle.ecf_lang.specs.declared.typed.TypedExpr.TheVariants as typed
use Rattle.ecf_faults.specs.declared.Fault.{Fault}
use Rattle.ecf_faults.specs.Tables.{Table, Surroundings, declaration_of}
use Rattle.ecf_faults.specs.declared.Referent.{Referent}
use Rattle.ecf_faults.specs.Least.{least_with}
use Rattle.ecf_faults.specs.Expressions.{Report, report_of, call_report_of, faults_for, own_method, first_place, map_faults, key_type, value_type, arity_faults, parameter_types, argument_faults, call_faults, answer_type, map_number, method_number, type_faults, referent, referent_faults, referent_type, referent_form, left_side_type, right_side_type}
use Rattle.ecf_faults.specs.Forms.{report_number, report_name, report_not, report_sum, report_compare, report_call, report_flag, report_here, report_at, report_product, report_and, report_or, report_external, report_internal}
use Rattle.ecf_typing.specs.declared.form.Summary.{Summary}
use Rattle.ecf_typing.specs.Summaries.{summary_of, plain_summary, Summarizes, SummarizesFor}
use Rattle.ecf_typing.proofs.LoopLaws.{then_more, first_with_both}

pub map_map : {A B C : Type 0} (f : A → B) (g : B → C) (xs : List A) → map g (map f xs) ≡ map (λ x. g (f x)) xs
map_map f g [] = refl
map_map f g (x ∷ xs) = ap (λ ys. g (f x) ∷ ys) (map_map f g xs)

pub length_map : {A B : Type 0} (f : A → B) (xs : List A) → length (map f xs) ≡ length xs
length_map f [] = refl
length_map f (x ∷ xs) = omega (arith, length_map f xs)

flat_map_map : {A B C : Type 0} (f : A → B) (g : B → List C) (xs : List A) → flat_map g (map f xs) ≡ flat_map (λ x. g (f x)) xs
flat_map_map f g [] = refl
flat_map_map f g (x ∷ xs) = ap (λ ys. g (f x) ++ ys) (flat_map_map f g xs)

-- what a name stands for, where what names stand for is locals otherwise
pub found_seen : {A B : Type 0} (f : A → B) (table : Table A) (name : List ℕ) → declaration_of (map (λ e. (e.0, f e.1)) table) name ≡ option_map f (declaration_of table name)
found_seen f [] name = refl
found_seen f (e ∷ table) name =
    elim (bytes_eq name e.0) as (λ b. cond b (Some (f e.1)) (declaration_of (map (λ e. (e.0, f e.1)) table) name) ≡ option_map f (cond b (Some e.1) (declaration_of table name)))
    [ true ↦ refl | false ↦ found_seen f table name ]

-- one more argument
needs_at : (i : ℕ) (tys : List Ty) (x : Report TypedExpr) (xs : List (Report TypedExpr)) → argument_faults (drop i tys) (x ∷ xs) ≡ faults_for (slice_get tys i) x ++ argument_faults (drop (suc i) tys) xs
needs_at zero [] x xs = refl
needs_at zero (ty ∷ tys) x xs = refl
needs_at (suc i) [] x xs = refl
needs_at (suc i) (ty ∷ tys) x xs = needs_at i tys x xs

pub args_more : (j : Expr → Report TypedExpr) (tys : List Ty) (xs : List Expr) (i : ℕ) (x : Expr) (now new whole : Option Fault) → least_with now (argument_faults (drop i tys) (map j (drop i xs))) ≡ whole → i < length xs → x ≡ get_or xs i x → new ≡ least_with now (faults_for (slice_get tys i) (j x)) → least_with new (argument_faults (drop (i + 1) tys) (map j (drop (i + 1) xs))) ≡ whole
args_more j tys xs i x now new whole so_far within at step =
    let dropped : drop i xs ≡ x ∷ drop (i + 1) xs = drop_more xs i x within ∙ ap (λ y. y ∷ drop (i + 1) xs) (sym at) in
    ap (λ o. least_with o (argument_faults (drop (i + 1) tys) (map j (drop (i + 1) xs)))) step
    ∙ sym (first_with_both now (faults_for (slice_get tys i) (j x)) _)
    ∙ ap (λ k. least_with now (faults_for (slice_get tys i) (j x) ++ argument_faults (drop k tys) (map j (drop (i + 1) xs)))) (add-one i)
    ∙ sym (ap (least_with now) (needs_at i tys (j x) (map j (drop (i + 1) xs))))
    ∙ sym (ap (λ ys. least_with now (argument_faults (drop i tys) (map j ys))) dropped)
    ∙ so_far

pub args_all : (j : Expr → Report TypedExpr) (tys : List Ty) (xs : List Expr) (i : ℕ) (now whole : Option Fault) → least_with now (argument_faults (drop i tys) (map j (drop i xs))) ≡ whole → length xs ≤ i → now ≡ whole
args_all j tys xs i now whole so_far past = nothing (drop i tys) (rw (drop_all i xs past) at so_far)
  where
    nothing : (rest : List Ty) → least_with now (argument_faults rest []) ≡ whole → now ≡ whole
    nothing [] e = e
    nothing (ty ∷ rest) e = e

module _ (s : Surroundings) (l : Table (ℕ × Ty)) where
  abbrev j : Expr → Report TypedExpr
  j e = report_of s l e

  -- what is plain_summary by an equation
  summary_by : (e : Expr) (k : Report TypedExpr) (o n : Option Fault) (c : Summary TypedExpr) → j e ≡ k → c ≡ summary_of k → n ≡ least_with o k.faults → Summarizes (j e) o n c
  summary_by e k o n c is was noted = record { says = was ∙ sym (ap summary_of is); noted = noted ∙ sym (ap (λ (x : Report TypedExpr). least_with o x.faults) is) }

  -- an expression from which a type is required
  pub summary_for : (want : Option Ty) (e : Expr) (o m n : Option Fault) (c : Summary TypedExpr) → Summarizes (j e) o m c → n ≡ least_with m (type_faults want c.ty c.place) → SummarizesFor want (j e) o n c
  summary_for want e o m n c tells noted = record {
    says = tells.says;
    noted = then_more o m n (j e).faults (type_faults want (j e).ty (j e).place) tells.noted (noted ∙ ap (λ (x : Summary TypedExpr). least_with m (type_faults want x.ty x.place)) tells.says);
  }

  pub number_summary : (e : Expr) (at v : ℕ) (o : Option Fault) (c : Summary TypedExpr) → e ≡ expr.Number at v → c ≡ plain_summary at Num (typed.Number v) → Summarizes (j e) o o c
  number_summary e at v o c is was = summary_by e _ o o c (ap j is ∙ report_number s l at v) was refl

  pub name_summary : (at : ℕ) (name : List ℕ) (o n : Option Fault) (which : Referent) (ty : Option Ty) (form : TypedExpr) → which ≡ referent s l name → n ≡ least_with o (referent_faults at which) → ty ≡ referent_type which → form ≡ referent_form which → Summarizes (j (expr.Name at name)) o n (record { place = at; ty = ty; form = form })
  name_summary at name o n which ty form is noted ty_is form_is =
      summary_by (expr.Name at name) _ o n _ (report_name s l at name)
      (ap (λ (t : Option Ty). record { place = at; ty = t; form = form }) (ty_is ∙ ap referent_type is) ∙ ap (λ (f : TypedExpr). record { place = at; ty = referent_type (referent s l name); form = f }) (form_is ∙ ap referent_form is))
      (noted ∙ ap (λ w. least_with o (referent_faults at w)) is)

  pub not_summary : (e : Expr) (at : ℕ) (inner : Expr) (o n : Option Fault) (a c : Summary TypedExpr) → e ≡ expr.Not at inner → SummarizesFor (Some Flag) (j inner) o n a → c ≡ plain_summary at Flag (typed.Not a.form) → Summarizes (j e) o n c
  not_summary e at inner o n a c is fits was =
      summary_by e _ o n c (ap j is ∙ report_not s l at inner) (was ∙ ap (λ (x : Summary TypedExpr). plain_summary at Flag (typed.Not x.form)) fits.says) fits.noted

  pub sum_summary : (e first : Expr) (rest : List (Op × Expr)) (o m n : Option Fault) (a c : Summary TypedExpr) (cs : List (Op × TypedExpr)) → e ≡ expr.Sum first rest → SummarizesFor (Some Num) (j first) o m a → cs ≡ map (λ part. (part.0, (j part.1).form)) rest → n ≡ least_with m (flat_map (λ part. faults_for (Some Num) (j part.1)) rest) → c ≡ plain_summary a.place Num (typed.Sum a.form cs) → Summarizes (j e) o n c
  sum_summary e first rest o m n a c cs is fits were noted was =
      summary_by e _ o n c (ap j is ∙ report_sum s l first rest)
      (was ∙ ap (λ (x : Summary TypedExpr). plain_summary x.place Num (typed.Sum x.form cs)) fits.says
      ∙ ap (λ (xs : List (Op × TypedExpr)). plain_summary (j first).place Num (typed.Sum (j first).form xs)) (were ∙ sym (map_map (λ part. (part.0, j part.1)) (λ part. (part.0, part.1.form)) rest)))
      (then_more o m n (faults_for (Some Num) (j first)) _ fits.noted (noted ∙ ap (least_with m) (sym (flat_map_map (λ (part : Op × Expr). (part.0, j part.1)) (λ part. faults_for (Some Num) part.1) rest))))

  pub compare_summary : (e left right : Expr) (op : Op) (o m n : Option Fault) (a b c : Summary TypedExpr) → e ≡ expr.Compare left op right → SummarizesFor (left_side_type op) (j left) o m a → SummarizesFor (right_side_type op a.ty) (j right) m n b → c ≡ plain_summary a.place Flag (typed.Compare a.form op b.form) → Summarizes (j e) o n c
  compare_summary e left right op o m n a b c is fits_a fits_b was =
      summary_by e _ o n c (ap j is ∙ report_compare s l left op right)
      (was ∙ ap (λ (x : Summary TypedExpr). plain_summary x.place Flag (typed.Compare x.form op b.form)) fits_a.says
      ∙ ap (λ (x : Summary TypedExpr). plain_summary (j left).place Flag (typed.Compare (j left).form op x.form)) fits_b.says)
      (then_more o m n (faults_for (left_side_type op) (j left)) (faults_for (right_side_type op (j left).ty) (j right)) fits_a.noted (fits_b.noted ∙ ap (λ (x : Summary TypedExpr). least_with m (faults_for (right_side_type op x.ty) (j right))) fits_a.says))

  pub call_summary : (e : Expr) (call : CallExpr) (o n : Option Fault) (c : Summary TypedCall) → e ≡ expr.Call call → Summarizes (call_report_of s l call) o n c → Summarizes (j e) o n (record { place = c.place; ty = c.ty; form = typed.Call c.form })
  call_summary e call o n c is tells = summary_by e _ o n _ (ap j is ∙ report_call s l call) (ap (λ (x : Summary TypedCall). record { place = x.place; ty = x.ty; form = typed.Call x.form }) tells.says) tells.noted

  pub external_summary : (whole : CallExpr) (at : ℕ) (target : Expr) (name_at : ℕ) (name : List ℕ) (args : List Expr) (method : Option (ℕ × Signature)) (o m k n : Option Fault) (t : Summary TypedExpr) (tys : List Ty) (made : List TypedExpr) (c : Summary TypedCall) → whole ≡ call.External at target name_at name args → method ≡ declaration_of s.signatures name → SummarizesFor (Some Addr) (j target) o m t → k ≡ least_with m (arity_faults name_at method (length args)) → tys ≡ parameter_types method (length args) → made ≡ map (λ arg. (j arg).form) args → n ≡ least_with k (argument_faults tys (map j args)) → c ≡ record { place = at; ty = answer_type method; form = called.External t.form (method_number method) made } → Summarizes (call_report_of s l whole) o n c
  external_summary whole at target name_at name args method o m k n t tys made c is method_is fits arity tys_is were noted was = record {
    says = was
        ∙ ap (λ (x : Summary TypedExpr). record { place = at; ty = answer_type method; form = called.External x.form (method_number method) made }) fits.says
        ∙ ap (λ (xs : List TypedExpr). record { place = at; ty = answer_type method; form = called.External (j target).form (method_number method) xs }) (were ∙ sym (map_map j (λ arg. arg.form) args))
        ∙ ap (λ w. record { place = at; ty = answer_type w; form = called.External (j target).form (method_number w) (map (λ arg. arg.form) (map j args)) }) method_is
        ∙ sym (ap summary_of (ap (call_report_of s l) is ∙ report_external s l at target name_at name args));
    noted =
        then_more o m n (faults_for (Some Addr) (j target)) (call_faults name_at method (map j args)) fits.noted
        (then_more m k n (arity_faults name_at method (length (map j args))) (argument_faults (parameter_types method (length (map j args))) (map j args))
        (arity ∙ ap (λ q. least_with m (arity_faults name_at method q)) (sym (length_map j args)))
        (noted ∙ ap (λ ts. least_with k (argument_faults ts (map j args))) (tys_is ∙ ap (parameter_types method) (sym (length_map j args)))))
        ∙ ap (λ w. least_with o (faults_for (Some Addr) (j target) ++ call_faults name_at w (map j args))) method_is
        ∙ sym (ap (λ (x : Report TypedCall). least_with o x.faults) (ap (call_report_of s l) is ∙ report_external s l at target name_at name args));
  }

  pub flag_summary : (e : Expr) (at : ℕ) (b : Bool) (o : Option Fault) (c : Summary TypedExpr) → e ≡ expr.Flag at b → c ≡ plain_summary at Flag (typed.Flag b) → Summarizes (j e) o o c
  flag_summary e at b o c is was = summary_by e _ o o c (ap j is ∙ report_flag s l at b) was refl

  pub here_summary : (e : Expr) (at : ℕ) (o : Option Fault) (c : Summary TypedExpr) → e ≡ expr.Here at → c ≡ plain_summary at Addr typed.Here → Summarizes (j e) o o c
  here_summary e at o c is was = summary_by e _ o o c (ap j is ∙ report_here s l at) was refl

  pub at_summary : (e : Expr) (at : ℕ) (name : List ℕ) (key : Expr) (own : Option (ℕ × FieldKind)) (o m n : Option Fault) (k c : Summary TypedExpr) → e ≡ expr.At at name key → own ≡ declaration_of s.own name → m ≡ least_with o (map_faults at own) → SummarizesFor (key_type own) (j key) m n k → c ≡ record { place = at; ty = value_type own; form = typed.At (map_number own) k.form } → Summarizes (j e) o n c
  at_summary e at name key own o m n k c is own_is noted fits was =
      summary_by e _ o n c (ap j is ∙ report_at s l at name key)
      (was ∙ ap (λ (x : Summary TypedExpr). record { place = at; ty = value_type own; form = typed.At (map_number own) x.form }) fits.says
      ∙ ap (λ w. record { place = at; ty = value_type w; form = typed.At (map_number w) (j key).form }) own_is)
      (then_more o m n (map_faults at own) (faults_for (key_type own) (j key)) noted fits.noted ∙ ap (λ w. least_with o (map_faults at w ++ faults_for (key_type w) (j key))) own_is)

  pub product_summary : (e first : Expr) (rest : List (Op × Expr)) (o m n : Option Fault) (a c : Summary TypedExpr) (cs : List (Op × TypedExpr)) → e ≡ expr.Product first rest → SummarizesFor (Some Num) (j first) o m a → cs ≡ map (λ part. (part.0, (j part.1).form)) rest → n ≡ least_with m (flat_map (λ part. faults_for (Some Num) (j part.1)) rest) → c ≡ plain_summary a.place Num (typed.Product a.form cs) → Summarizes (j e) o n c
  product_summary e first rest o m n a c cs is fits were noted was =
      summary_by e _ o n c (ap j is ∙ report_product s l first rest)
      (was ∙ ap (λ (x : Summary TypedExpr). plain_summary x.place Num (typed.Product x.form cs)) fits.says
      ∙ ap (λ (xs : List (Op × TypedExpr)). plain_summary (j first).place Num (typed.Product (j first).form xs)) (were ∙ sym (map_map (λ part. (part.0, j part.1)) (λ part. (part.0, part.1.form)) rest)))
      (then_more o m n (faults_for (Some Num) (j first)) _ fits.noted (noted ∙ ap (least_with m) (sym (flat_map_map (λ (part : Op × Expr). (part.0, j part.1)) (λ part. faults_for (Some Num) part.1) rest))))

  pub and_summary : (e : Expr) (parts : List Expr) (o n : Option Fault) (place : ℕ) (cs : List TypedExpr) (c : Summary TypedExpr) → e ≡ expr.And parts → place ≡ first_place (map j parts) → cs ≡ map (λ part. (j part).form) parts → n ≡ least_with o (flat_map (λ part. faults_for (Some Flag) (j part)) parts) → c ≡ plain_summary place Flag (typed.And cs) → Summarizes (j e) o n c
  and_summary e parts o n place cs c is at were noted was =
      summary_by e _ o n c (ap j is ∙ report_and s l parts)
      (was ∙ ap (λ p. plain_summary p Flag (typed.And cs)) at ∙ ap (λ (xs : List TypedExpr). plain_summary (first_place (map j parts)) Flag (typed.And xs)) (were ∙ sym (map_map j (λ part. part.form) parts)))
      (noted ∙ ap (least_with o) (sym (flat_map_map j (faults_for (Some Flag)) parts)))

  pub or_summary : (e : Expr) (parts : List Expr) (o n : Option Fault) (place : ℕ) (cs : List TypedExpr) (c : Summary TypedExpr) → e ≡ expr.Or parts → place ≡ first_place (map j parts) → cs ≡ map (λ part. (j part).form) parts → n ≡ least_with o (flat_map (λ part. faults_for (Some Flag) (j part)) parts) → c ≡ plain_summary place Flag (typed.Or cs) → Summarizes (j e) o n c
  or_summary e parts o n place cs c is at were noted was =
      summary_by e _ o n c (ap j is ∙ report_or s l parts)
      (was ∙ ap (λ p. plain_summary p Flag (typed.Or cs)) at ∙ ap (λ (xs : List TypedExpr). plain_summary (first_place (map j parts)) Flag (typed.Or xs)) (were ∙ sym (map_map j (λ part. part.form) parts)))
      (noted ∙ ap (least_with o) (sym (flat_map_map j (faults_for (Some Flag)) parts)))

  pub internal_summary : (whole : CallExpr) (at name_at : ℕ) (name : List ℕ) (args : List Expr) (method : Option (ℕ × Signature)) (o k n : Option Fault) (tys : List Ty) (made : List TypedExpr) (c : Summary TypedCall) → whole ≡ call.Internal at name_at name args → method ≡ own_method s name → k ≡ least_with o (arity_faults name_at method (length args)) → tys ≡ parameter_types method (length args) → made ≡ map (λ arg. (j arg).form) args → n ≡ least_with k (argument_faults tys (map j args)) → c ≡ record { place = at; ty = answer_type method; form = called.Internal (method_number method) made } → Summarizes (call_report_of s l whole) o n c
  internal_summary whole at name_at name args method o k n tys made c is method_is arity tys_is were noted was = record {
    says = was
        ∙ ap (λ (xs : List TypedExpr). record { place = at; ty = answer_type method; form = called.Internal (method_number method) xs }) (were ∙ sym (map_map j (λ arg. arg.form) args))
        ∙ ap (λ w. record { place = at; ty = answer_type w; form = called.Internal (method_number w) (map (λ arg. arg.form) (map j args)) }) method_is
        ∙ sym (ap summary_of (ap (call_report_of s l) is ∙ report_internal s l at name_at name args));
    noted =
        then_more o k n (arity_faults name_at method (length (map j args))) (argument_faults (parameter_types method (length (map j args))) (map j args))
        (arity ∙ ap (λ q. least_with o (arity_faults name_at method q)) (sym (length_map j args)))
        (noted ∙ ap (λ ts. least_with k (argument_faults ts (map j args))) (tys_is ∙ ap (parameter_types method) (sym (length_map j args))))
        ∙ ap (λ w. least_with o (call_faults name_at w (map j args))) method_is
        ∙ sym (ap (λ (x : Report TypedCall). least_with o x.faults) (ap (call_report_of s l) is ∙ report_internal s l at name_at name args));
  }

-- the place of the first part
pub place_more : (j : Expr → Report TypedExpr) (xs : List Expr) (i : ℕ) (x : Expr) (place : ℕ) (b : Bool) → place ≡ first_place (map j (take i xs)) → i < length xs → x ≡ get_or xs i x → (b ≡ true → i ≡ 0) → (b ≡ false → 0 < i) → (if b then (j x).place else place) ≡ first_place (map j (take (i + 1) xs))
place_more j (y ∷ ys) zero x place true so_far within at first later = ap (λ e. (j e).place) at
place_more j (y ∷ ys) (suc i) x place true so_far within at first later = absurd (omega (arith, first refl))
place_more j (y ∷ ys) zero x place false so_far within at first later = absurd (omega (arith, later refl))
place_more j (y ∷ ys) (suc i) x place false so_far within at first later = so_far ∙ ap (λ k. first_place (map j (take k (y ∷ ys)))) (sym (add-one (suc i)))
place_more j [] i x place b so_far within at first later = absurd (omega (arith, within))
