-- Terms whose constants are below a number: parts, fields, what is built of terms, and where sorts or terms are put.
use Rattle.std.specs.Prelude.{ℕ, zero, suc, ℤ, pos, ◌+◌, ◌-◌, ◌<◌, ◌≤◌, ◌≡◌, Bool, true, false, cond, nat_lt, List, [], ◌∷◌, map, length, reverse, slice_get, Option, Some, None}
use Rattle.std.specs.List.{AllByRecursion, Contains}
use Rattle.std.proofs.Common.{refl, sym, subst, arith}
use Rattle.ae_base.specs.Options.{or_else}
use Rattle.ae_base.proofs.AllOf.{all_at, all_both, all_of_map, all_before_map, all_reversed}
use Rattle.ae_core.specs.Constants.{constants, constants_step}
use Rattle.ae_core.specs.Inner.Induction.{by_terms}
use Rattle.ae_core.specs.Putting.{put_sort, put_terms, variable_at, instance_term}
use Rattle.ae_core.proofs.PuttingLaws.{put_bound, put_num, put_fresh, put_apply, instance_bound, instance_num, instance_fresh, instance_apply}
use Rattle.ae_core.proofs.Recursion.{fold_bound, fold_num, fold_fresh, fold_apply}
use Rattle.ae_core.specs.declared.problems.Signature.{Signature}
use Rattle.ae_core.specs.declared.terms.Head.{Head}
use Rattle.ae_core.specs.declared.terms.Head.TheVariants as head
use Rattle.ae_core.specs.declared.terms.Op.TheVariants as op
use Rattle.ae_core.specs.declared.terms.Sort.{Sort, Sort-F, out-Sort}
use Rattle.ae_core.specs.declared.terms.Sort.TheOpen as sort_layer
use Rattle.ae_core.specs.declared.terms.Term.{Term, Bound, Num, Fresh, Apply}
use Rattle.ae_journal.proofs.Splits.{all_contained, contains_here, contains_one}
use Rattle.ae_journal.specs.Systems.{field_terms, field_terms_of}
use Rattle.ae_rules.specs.Built.{IsBuilt, of_name, of_number, of_product, of_sum, of_symbol, of_unplain, numeral}
use Rattle.ae_rules.specs.Instances.{count_from}
use Rattle.ae_rules.specs.Lines.{fields_from}
use Rattle.ae_new_constants.specs.Below.{AreBelow, IsTermBelow}
use Rattle.ae_new_constants.proofs.Lists.{none_below, each_below, all_below}

-- ---- constants in a row
-- those from a number on aren't among terms whose constants are below it
pub all_new : (us : List Term) (n m : ℕ) (ss : List Sort) → AreBelow n us → n ≤ m → AllByRecursion (λ c. ¬ Contains us c) (count_from m ss)
all_new us n m [] a le = tt
all_new us n m (s ∷ ss) a le = ((λ h. let k = a m s h in omega (arith, k, le)), all_new us n (suc m) ss a (omega (arith, le)))

module _ (n : ℕ) where
  -- ---- each variant
  none_in : (t : Term) → constants t ≡ [] → IsTermBelow n t
  none_in t e = subst (AreBelow n) (sym e) (none_below n)

  bound_below : (i : ℕ) → IsTermBelow n (Bound i)
  unfolding constants
  bound_below i = none_in (Bound i) (fold_bound (List Term) constants_step i)

  pub num_below : (a b : ℤ) (r : Bool) → IsTermBelow n (Num a b r)
  unfolding constants
  num_below a b r = none_in (Num a b r) (fold_num (List Term) constants_step a b r)

  own_below : (m : ℕ) (s : Sort) → m < n → AreBelow n (Fresh m s ∷ [])
  own_below m s l k r h =
      let q : Fresh m s ≡ Fresh k r = contains_one (Fresh m s) (Fresh k r) h in
      let e : m ≡ k = cc q in
      omega (arith, l, e)

  pub constant_below : (m : ℕ) (s : Sort) → m < n → IsTermBelow n (Fresh m s)
  unfolding constants
  constant_below m s l = subst (AreBelow n) (sym (fold_fresh (List Term) constants_step m s)) (own_below m s l)

  constant_number : (m : ℕ) (s : Sort) → IsTermBelow n (Fresh m s) → m < n
  unfolding constants
  constant_number m s a = subst (AreBelow n) (fold_fresh (List Term) constants_step m s) a m s (contains_here (Fresh m s) [])

  pub applied : (h : Head) (ss : List Sort) (us : List Term) → AllByRecursion (IsTermBelow n) us → IsTermBelow n (Apply h ss us)
  unfolding constants
  applied h ss us a = subst (AreBelow n) (sym (fold_apply (List Term) constants_step h ss us)) (each_below n (λ (w : List Term). w) (map constants us) (all_of_map (AreBelow n) constants us a))

  pub arguments : (h : Head) (ss : List Sort) (us : List Term) → IsTermBelow n (Apply h ss us) → AllByRecursion (IsTermBelow n) us
  unfolding constants
  arguments h ss us a = all_before_map (AreBelow n) constants us (all_below n (λ (w : List Term). w) (map constants us) (subst (AreBelow n) (fold_apply (List Term) constants_step h ss us) a))

  pub row_below : (m : ℕ) (ss : List Sort) → m + length ss ≤ n → AllByRecursion (IsTermBelow n) (count_from m ss)
  row_below m [] le = tt
  row_below m (s ∷ ss) le = (constant_below m s (omega (arith, le)), row_below (suc m) ss (omega (arith, le)))

  -- ---- fields
  fields_in : (k : ℕ) (ss : List Sort) (t : Term) (i count : ℕ) → IsTermBelow n t → AllByRecursion (IsTermBelow n) (fields_from k ss t i count)
  fields_in k ss t i zero a = tt
  fields_in k ss t i (suc count) a = (applied (head.Field k i) ss (t ∷ []) (a, tt), fields_in k ss t (suc i) count a)

  pub fields : (s : Sort) (t : Term) (count : ℕ) → IsTermBelow n t → AllByRecursion (IsTermBelow n) (field_terms s t count)
  fields s t count a = by_layer (out-Sort s)
    where
      by_layer : (o : Sort-F Sort) → AllByRecursion (IsTermBelow n) (field_terms_of o t count)
      by_layer (sort_layer.Named k ss) = fields_in k ss t 0 count a
      by_layer (sort_layer.Var i) = tt
      by_layer (sort_layer.Rigid i) = tt
      by_layer sort_layer.Int = tt
      by_layer sort_layer.Real = tt
      by_layer sort_layer.Bool = tt
      by_layer sort_layer.Unit = tt

  -- ---- what is built of terms
  pub built : (sig : Signature) (names : List Term) → AllByRecursion (IsTermBelow n) names → (u : Term) → IsBuilt sig names u → IsTermBelow n u
  built sig names a _ (of_name u c) = all_contained (IsTermBelow n) names u a c
  built sig names a _ (of_number u real z e o) = subst (IsTermBelow n) (sym e) (num_below z (pos 1) real)
  built sig names a _ (of_product u real z t e c) =
      subst (IsTermBelow n) (sym e) (applied (cond real (head.Real op.Mul) (head.Int op.Mul)) [] (numeral real z ∷ t ∷ []) (num_below z (pos 1) real, (all_contained (IsTermBelow n) names t a c, tt)))
  built sig names a _ (of_sum u real s t e p q) =
      subst (IsTermBelow n) (sym e) (applied (cond real (head.Real op.Add) (head.Int op.Add)) [] (s ∷ t ∷ []) (built sig names a s p, (built sig names a t q, tt)))
  built sig names a _ (of_symbol u k ss s t e ac o p q) = subst (IsTermBelow n) (sym e) (applied (head.Symbol k) ss (s ∷ t ∷ []) (built sig names a s p, (built sig names a t q, tt)))
  built sig names a _ (of_unplain u h ss s t e w p q) = subst (IsTermBelow n) (sym e) (applied h ss (s ∷ t ∷ []) (built sig names a s p, (built sig names a t q, tt)))

  -- ---- where sorts are put
  pub sorts_put : (ss : List Sort) (t : Term) → IsTermBelow n t → IsTermBelow n (instance_term ss t)
  sorts_put ss =
      by_terms (λ t. IsTermBelow n t → IsTermBelow n (instance_term ss t))
      (λ i b. subst (IsTermBelow n) (sym (instance_bound ss i)) b)
      (λ x y r b. subst (IsTermBelow n) (sym (instance_num ss x y r)) b)
      (λ m s b. subst (IsTermBelow n) (sym (instance_fresh ss m s)) (constant_below m (put_sort ss s) (constant_number m s b)))
      (λ h os us each b. subst (IsTermBelow n) (sym (instance_apply ss h os us))
      (applied h (map (put_sort ss) os) (map (instance_term ss) us)
      (all_of_map (IsTermBelow n) (instance_term ss) us
      (all_both (IsTermBelow n) (λ u. IsTermBelow n u → IsTermBelow n (instance_term ss u)) (λ u. IsTermBelow n (instance_term ss u)) (λ u x f. f x) us (arguments h os us b) each))))

  -- ---- where terms are put for variables
  module _ (ts : List Term) (a : AllByRecursion (IsTermBelow n) ts) where
    placed : (o : Option Term) (i : ℕ) → ((u : Term) → o ≡ Some u → IsTermBelow n u) → IsTermBelow n (or_else o (Bound i))
    placed (Some u) i f = f u refl
    placed None i f = bound_below i

    chosen : (b : Bool) (t u : Term) → IsTermBelow n t → IsTermBelow n u → IsTermBelow n (cond b t u)
    chosen true t u x y = x
    chosen false t u x y = y

    variable_below : (d i : ℕ) → IsTermBelow n (variable_at d ts i)
    variable_below d i =
        chosen (nat_lt i d) (Bound i) (or_else (slice_get (reverse ts) (i - d)) (Bound (i - length ts))) (bound_below i)
        (placed (slice_get (reverse ts) (i - d)) (i - length ts) (λ u e. all_at (IsTermBelow n) (reverse ts) (i - d) u (all_reversed (IsTermBelow n) ts a) e))

    pub terms_put : (d : ℕ) (t : Term) → IsTermBelow n t → IsTermBelow n (put_terms d ts t)
    terms_put d =
        by_terms (λ t. IsTermBelow n t → IsTermBelow n (put_terms d ts t))
        (λ i b. subst (IsTermBelow n) (sym (put_bound d ts i)) (variable_below d i))
        (λ x y r b. subst (IsTermBelow n) (sym (put_num d ts x y r)) b)
        (λ m s b. subst (IsTermBelow n) (sym (put_fresh d ts m s)) b)
        (λ h ss us each b. subst (IsTermBelow n) (sym (put_apply d ts h ss us))
        (applied h ss (map (put_terms d ts) us)
        (all_of_map (IsTermBelow n) (put_terms d ts) us
        (all_both (IsTermBelow n) (λ u. IsTermBelow n u → IsTermBelow n (put_terms d ts u)) (λ u. IsTermBelow n (put_terms d ts u)) (λ u x f. f x) us (arguments h ss us b) each))))
