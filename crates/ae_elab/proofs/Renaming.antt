-- Numbers of type variables don't hang on how the unknowns are named that a most general typing leaves open.
use Rattle.std.proofs.Common.{◌≡◌, ℕ, Bool, true, false, ◌||◌, List, [], ◌∷◌, ◌++◌, map, refl, ap, sym, ◌∙◌, subst, Option, Some}
use Rattle.std.proofs.lemmas.List.{map-append}
use Rattle.std.specs.List.{AllByRecursion, flat_map, list_any}
use Rattle.ae_base.specs.Decided.{decided}
use Rattle.ae_core.specs.Decided.{Sort_discrete}
use Rattle.ae_core.specs.Inner.Induction.{by_sorts}
use Rattle.ae_core.specs.Sorts.{same_sort}
use Rattle.ae_core.specs.declared.terms.Sort.{Sort, Sort-F, Var, Rigid, Int, Real, Bool as BoolSort, Unit as UnitSort, Named, out-Sort}
use Rattle.ae_core.specs.declared.terms.Sort.TheOpen as layer
use Rattle.ae_core.specs.declared.terms.Sort.TheVariants.{outs-Var, outs-Rigid, outs-Int, outs-Real, outs-Bool, outs-Unit, outs-Named}
use Rattle.ae_core.specs.declared.terms.Op.{Op}
use Rattle.ae_types.specs.Substitutions.{put}
use Rattle.ae_elab.specs.Scope.{first_place, after_one}
use Rattle.ae_elab.specs.Elaboration.{head_on}
use Rattle.ae_elab.specs.Numbering.{open_sorts, once_more, variables_among_sorts, by_place, numbered_sort}
use Rattle.ae_elab.proofs.NumberRules.{open_var, open_rigid, open_int, open_real, open_bool, open_unit, open_named, number_var, number_rigid, number_int, number_real, number_bool, number_unit, number_named}
use Rattle.ae_elab.proofs.PutLaws.{put_rigid, put_int, put_real, put_bool, put_unit, put_named, from_var, named_args}
use Rattle.ae_base.proofs.ListFacts.{cons_head, cons_tail}
use Rattle.ae_elab.proofs.SortsIn.{joined, flat_moved}
use Rattle.ae_base.proofs.AllOf.{all_append}

decided_same : {P Q : Type 0} (d : Dec P) (e : Dec Q) → (P → Q) → (Q → P) → decided d ≡ decided e
decided_same (yes p) (yes q) f g = refl
decided_same (yes p) (no q) f g = absurd (q (f p))
decided_same (no p) (yes q) f g = absurd (p (g q))
decided_same (no p) (no q) f g = refl

-- m brings back what w renames
module _ (m w : ℕ → Sort) where
  abbrev Back : Sort → Type 0
  Back s = put m (put w s) ≡ s

  pub backs_in : (ss : List Sort) → map (put m) (map (put w) ss) ≡ ss → AllByRecursion Back ss
  backs_in [] e = tt
  backs_in (s ∷ ss) e =
      (cons_head (put m (put w s)) s (map (put m) (map (put w) ss)) ss e, backs_in ss (cons_tail (put m (put w s)) s (map (put m) (map (put w) ss)) ss e))

  args_back : (h : ℕ) (ss : List Sort) → Back (Named h ss) → AllByRecursion Back ss
  args_back h ss e =
      backs_in ss (named_args h h (map (put m) (map (put w) ss)) ss (sym (ap (put m) (put_named w h ss) ∙ put_named m h (map (put w) ss)) ∙ e))

  both_parts : (P : Sort → Type 0) (ss : List Sort) → AllByRecursion (λ s. Back s → P s) ss → AllByRecursion Back ss → AllByRecursion P ss
  both_parts P [] a b = tt
  both_parts P (s ∷ ss) a b = (a.0 b.0, both_parts P ss a.1 b.1)

  -- ---- heads of arithmetic stay
  abbrev HeadStays : Op → Sort → Type 0
  HeadStays o s = Back s → head_on o (out-Sort s) ≡ head_on o (out-Sort (put w s))

  head_by : (o : Op) (s t : Sort) (k l : Sort-F Sort) → out-Sort s ≡ k → out-Sort t ≡ l → head_on o k ≡ head_on o l → put w s ≡ t
      → head_on o (out-Sort s) ≡ head_on o (out-Sort (put w s))
  head_by o s t k l a b e p = ap (head_on o) a ∙ e ∙ sym (ap (head_on o) b) ∙ sym (ap (λ x. head_on o (out-Sort x)) p)

  pub head_stays : (o : Op) (s : Sort) → HeadStays o s
  head_stays o = by_sorts (HeadStays o)
      (λ i e. (let v = from_var m (put w (Var i)) i e in head_by o (Var i) (Var v.0) (layer.Var i) (layer.Var v.0) (outs-Var i) (outs-Var v.0) refl v.1))
      (λ i e. head_by o (Rigid i) (Rigid i) (layer.Rigid i) (layer.Rigid i) (outs-Rigid i) (outs-Rigid i) refl (put_rigid w i))
      (λ e. head_by o Int Int layer.Int layer.Int outs-Int outs-Int refl (put_int w))
      (λ e. head_by o Real Real layer.Real layer.Real outs-Real outs-Real refl (put_real w))
      (λ e. head_by o BoolSort BoolSort layer.Bool layer.Bool outs-Bool outs-Bool refl (put_bool w))
      (λ e. head_by o UnitSort UnitSort layer.Unit layer.Unit outs-Unit outs-Unit refl (put_unit w))
      (λ h ss a e. head_by o (Named h ss) (Named h (map (put w) ss)) (layer.Named h ss) (layer.Named h (map (put w) ss)) (outs-Named h ss) (outs-Named h (map (put w) ss)) refl (put_named w h ss))

  -- ---- type variables are renamed, each by itself
  open_of_var : (t : Sort) → (k : ℕ) × (t ≡ Var k) → open_sorts t ≡ t ∷ []
  open_of_var t e = ap open_sorts e.1 ∙ open_var e.0 ∙ ap (λ x. x ∷ []) (sym e.1)

  abbrev OpenMoves : Sort → Type 0
  OpenMoves s = open_sorts (put w s) ≡ map (put w) (open_sorts s)

  pub open_moved : (s : Sort) → Back s → OpenMoves s
  open_moved = by_sorts (λ s. Back s → OpenMoves s)
      (λ i e. open_of_var (put w (Var i)) (from_var m (put w (Var i)) i e) ∙ sym (ap (map (put w)) (open_var i)))
      (λ i e. ap open_sorts (put_rigid w i) ∙ open_rigid i ∙ ap (λ x. x ∷ []) (sym (put_rigid w i)) ∙ sym (ap (map (put w)) (open_rigid i)))
      (λ e. ap open_sorts (put_int w) ∙ open_int ∙ sym (ap (map (put w)) open_int))
      (λ e. ap open_sorts (put_real w) ∙ open_real ∙ sym (ap (map (put w)) open_real))
      (λ e. ap open_sorts (put_bool w) ∙ open_bool ∙ sym (ap (map (put w)) open_bool))
      (λ e. ap open_sorts (put_unit w) ∙ open_unit ∙ sym (ap (map (put w)) open_unit))
      (λ h ss a e.
      ap open_sorts (put_named w h ss) ∙ open_named h (map (put w) ss) ∙ joined open_sorts (map (put w) ss)
      ∙ flat_moved (put w) open_sorts open_sorts (put w) ss (both_parts OpenMoves ss a (args_back h ss e))
      ∙ sym (ap (map (put w)) (open_named h ss ∙ joined open_sorts ss)))

  backs_joined : (ss : List Sort) → AllByRecursion (λ s. AllByRecursion Back (open_sorts s)) ss → AllByRecursion Back (flat_map open_sorts ss)
  backs_joined [] a = tt
  backs_joined (s ∷ ss) a = all_append Back (open_sorts s) (flat_map open_sorts ss) a.0 (backs_joined ss a.1)

  pub open_back : (s : Sort) → Back s → AllByRecursion Back (open_sorts s)
  open_back = by_sorts (λ s. Back s → AllByRecursion Back (open_sorts s))
      (λ i e. subst (AllByRecursion Back) (sym (open_var i)) (e, tt))
      (λ i e. subst (AllByRecursion Back) (sym (open_rigid i)) (e, tt))
      (λ e. subst (AllByRecursion Back) (sym open_int) tt)
      (λ e. subst (AllByRecursion Back) (sym open_real) tt)
      (λ e. subst (AllByRecursion Back) (sym open_bool) tt)
      (λ e. subst (AllByRecursion Back) (sym open_unit) tt)
      (λ h ss a e. subst (AllByRecursion Back) (sym (open_named h ss ∙ joined open_sorts ss)) (backs_joined ss (both_parts (λ s. AllByRecursion Back (open_sorts s)) ss a (args_back h ss e))))

  -- ---- they are the same after renaming where they were before
  same_moved : (s t : Sort) → Back s → Back t → same_sort (put w s) (put w t) ≡ same_sort s t
  same_moved s t a b =
      decided_same (Sort_discrete (put w s) (put w t)) (Sort_discrete s t) (λ e. sym a ∙ ap (put m) e ∙ b) (λ e. ap (put w) e)

  any_moved : (s : Sort) (ss : List Sort) → Back s → AllByRecursion Back ss → list_any (same_sort (put w s)) (map (put w) ss) ≡ list_any (same_sort s) ss
  any_moved s [] a b = refl
  any_moved s (t ∷ ts) a b =
      ap (λ x. x || list_any (same_sort (put w s)) (map (put w) ts)) (same_moved s t a b.0) ∙ ap (λ x. same_sort s t || x) (any_moved s ts a b.1)

  first_by : (x y : Bool) (o p : Option ℕ) → x ≡ y → o ≡ p
      → elim x as (λ z. Option ℕ) [ true ↦ Some 0 | false ↦ after_one o ] ≡ elim y as (λ z. Option ℕ) [ true ↦ Some 0 | false ↦ after_one p ]
  first_by x y o p a b = ap (λ z. elim z as (λ q. Option ℕ) [ true ↦ Some 0 | false ↦ after_one o ]) a ∙ ap (λ z. elim y as (λ q. Option ℕ) [ true ↦ Some 0 | false ↦ after_one z ]) b

  first_moved : (s : Sort) (ss : List Sort) → Back s → AllByRecursion Back ss → first_place (same_sort (put w s)) (map (put w) ss) ≡ first_place (same_sort s) ss
  first_moved s [] a b = refl
  first_moved s (t ∷ ts) a b =
      first_by (same_sort (put w s) (put w t)) (same_sort s t) (first_place (same_sort (put w s)) (map (put w) ts)) (first_place (same_sort s) ts)
      (same_moved s t a b.0) (first_moved s ts a b.1)

  -- ---- each once, by first occurrence
  snoc_moved : (seen : List Sort) (s : Sort) → map (put w) (seen ++ s ∷ []) ≡ map (put w) seen ++ put w s ∷ []
  snoc_moved seen s = map-append (put w) seen (s ∷ [])

  once_by : (x y : Bool) (a b c d : List Sort) → x ≡ y → a ≡ c → b ≡ d
      → elim x as (λ z. List Sort) [ true ↦ a | false ↦ b ] ≡ elim y as (λ z. List Sort) [ true ↦ c | false ↦ d ]
  once_by x y a b c d e f g =
      ap (λ z. elim z as (λ q. List Sort) [ true ↦ a | false ↦ b ]) e ∙ ap (λ z. elim y as (λ q. List Sort) [ true ↦ z | false ↦ b ]) f
      ∙ ap (λ z. elim y as (λ q. List Sort) [ true ↦ c | false ↦ z ]) g

  pull : (y : Bool) (a b : List Sort) → elim y as (λ q. List Sort) [ true ↦ map (put w) a | false ↦ map (put w) b ] ≡ map (put w) (elim y as (λ q. List Sort) [ true ↦ a | false ↦ b ])
  pull true a b = refl
  pull false a b = refl

  pub once_moved : (seen ss : List Sort) → AllByRecursion Back seen → AllByRecursion Back ss → once_more (map (put w) seen) (map (put w) ss) ≡ map (put w) (once_more seen ss)
  once_moved seen [] a b = refl
  once_moved seen (s ∷ ss) a b =
      once_by (list_any (same_sort (put w s)) (map (put w) seen)) (list_any (same_sort s) seen)
      (once_more (map (put w) seen) (map (put w) ss)) (once_more (map (put w) seen ++ put w s ∷ []) (map (put w) ss))
      (map (put w) (once_more seen ss)) (map (put w) (once_more (seen ++ s ∷ []) ss))
      (any_moved s seen b.0 a)
      (once_moved seen ss a b.1)
      (ap (λ x. once_more x (map (put w) ss)) (sym (snoc_moved seen s)) ∙ once_moved (seen ++ s ∷ []) ss (all_append Back seen (s ∷ []) a (b.0, tt)) b.1)
      ∙ pull (list_any (same_sort s) seen) (once_more seen ss) (once_more (seen ++ s ∷ []) ss)

  keep_by : (y : Bool) (a b : List Sort) → AllByRecursion Back a → AllByRecursion Back b → AllByRecursion Back (elim y as (λ q. List Sort) [ true ↦ a | false ↦ b ])
  keep_by true a b x z = x
  keep_by false a b x z = z

  pub once_back : (seen ss : List Sort) → AllByRecursion Back seen → AllByRecursion Back ss → AllByRecursion Back (once_more seen ss)
  once_back seen [] a b = a
  once_back seen (s ∷ ss) a b =
      keep_by (list_any (same_sort s) seen) (once_more seen ss) (once_more (seen ++ s ∷ []) ss) (once_back seen ss a b.1)
      (once_back (seen ++ s ∷ []) ss (all_append Back seen (s ∷ []) a (b.0, tt)) b.1)

  -- ---- the type variables of a list of sorts
  all_open : (ss : List Sort) → AllByRecursion Back ss → AllByRecursion OpenMoves ss
  all_open [] a = tt
  all_open (s ∷ ss) a = (open_moved s a.0, all_open ss a.1)

  all_open_back : (ss : List Sort) → AllByRecursion Back ss → AllByRecursion (λ s. AllByRecursion Back (open_sorts s)) ss
  all_open_back [] a = tt
  all_open_back (s ∷ ss) a = (open_back s a.0, all_open_back ss a.1)

  pub variables_moved : (ss : List Sort) → AllByRecursion Back ss → variables_among_sorts (map (put w) ss) ≡ map (put w) (variables_among_sorts ss)
  variables_moved ss a =
      ap (once_more []) (flat_moved (put w) open_sorts open_sorts (put w) ss (all_open ss a))
      ∙ once_moved [] (flat_map open_sorts ss) tt (backs_joined ss (all_open_back ss a))

  pub variables_back : (ss : List Sort) → AllByRecursion Back ss → AllByRecursion Back (variables_among_sorts ss)
  variables_back ss a = once_back [] (flat_map open_sorts ss) tt (backs_joined ss (all_open_back ss a))

  -- ---- numbers
  abbrev NumberStays : Bool → List Sort → Sort → Type 0
  NumberStays g vs s = numbered_sort g (map (put w) vs) (put w s) ≡ numbered_sort g vs s

  number_of_var : (g : Bool) (vs : List Sort) (t : Sort) → (k : ℕ) × (t ≡ Var k) → numbered_sort g vs t ≡ by_place g (first_place (same_sort t) vs)
  number_of_var g vs t e = ap (numbered_sort g vs) e.1 ∙ number_var g vs e.0 ∙ ap (λ x. by_place g (first_place (same_sort x) vs)) (sym e.1)

  numbers_same : (g : Bool) (vs ss : List Sort) → AllByRecursion (NumberStays g vs) ss → map (numbered_sort g (map (put w) vs)) (map (put w) ss) ≡ map (numbered_sort g vs) ss
  numbers_same g vs [] a = refl
  numbers_same g vs (s ∷ ss) a =
      ap (λ x. x ∷ map (numbered_sort g (map (put w) vs)) (map (put w) ss)) a.0 ∙ ap (λ xs. numbered_sort g vs s ∷ xs) (numbers_same g vs ss a.1)

  pub number_stays : (g : Bool) (vs : List Sort) → AllByRecursion Back vs → (s : Sort) → Back s → NumberStays g vs s
  number_stays g vs b = by_sorts (λ s. Back s → NumberStays g vs s)
      (λ i e. number_of_var g (map (put w) vs) (put w (Var i)) (from_var m (put w (Var i)) i e) ∙ ap (by_place g) (first_moved (Var i) vs e b) ∙ sym (number_var g vs i))
      (λ i e. ap (numbered_sort g (map (put w) vs)) (put_rigid w i) ∙ number_rigid g (map (put w) vs) i
      ∙ ap (λ x. by_place g (first_place (same_sort x) (map (put w) vs))) (sym (put_rigid w i))
      ∙ ap (by_place g) (first_moved (Rigid i) vs e b) ∙ sym (number_rigid g vs i))
      (λ e. ap (numbered_sort g (map (put w) vs)) (put_int w) ∙ number_int g (map (put w) vs) ∙ sym (number_int g vs))
      (λ e. ap (numbered_sort g (map (put w) vs)) (put_real w) ∙ number_real g (map (put w) vs) ∙ sym (number_real g vs))
      (λ e. ap (numbered_sort g (map (put w) vs)) (put_bool w) ∙ number_bool g (map (put w) vs) ∙ sym (number_bool g vs))
      (λ e. ap (numbered_sort g (map (put w) vs)) (put_unit w) ∙ number_unit g (map (put w) vs) ∙ sym (number_unit g vs))
      (λ h ss a e.
      ap (numbered_sort g (map (put w) vs)) (put_named w h ss) ∙ number_named g (map (put w) vs) h (map (put w) ss)
      ∙ ap (Named h) (numbers_same g vs ss (both_parts (NumberStays g vs) ss a (args_back h ss e))) ∙ sym (number_named g vs h ss))
