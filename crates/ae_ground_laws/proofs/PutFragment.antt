-- Terms and formulas of the fragment are of the fragment with constants put for their variables.
use Rattle.std.specs.Prelude.{ℕ, suc, ◌-◌, true, cond, List, [], ◌∷◌, ◌≡◌, map, length, reverse, slice_get, Some}
use Rattle.std.specs.List.{AllByRecursion, list_all}
use Rattle.std.proofs.Common.{refl, sym, ap, ◌∙◌, subst, arith, append-nil}
use Rattle.std.proofs.lemmas.Bool.{and_parts}
use Rattle.std.proofs.lemmas.Option.{same_Some}
use Rattle.ae_base.proofs.AllOf.{all_at, all_of_map, all_reversed, all_weaker}
use Rattle.ae_base.specs.Options.{◌>>=◌, all_known, or_else, when}
use Rattle.ae_base.proofs.Options.{Refines, known_at}
use Rattle.ae_base.proofs.Tests.{below_zero}
use Rattle.ae_core.specs.Inner.Induction.{by_terms}
use Rattle.ae_core.specs.Putting.{put_terms, put_formula}
use Rattle.ae_core.specs.Sorts.{sort_in, sort_of, is_closed_sort}
use Rattle.ae_core.specs.declared.terms.Sort.{Sort}
use Rattle.ae_core.specs.declared.terms.Head.{Head}
use Rattle.ae_core.specs.declared.terms.Term.{Term, Bound, Num, Fresh, Apply}
use Rattle.ae_core.specs.declared.formulas.Formula.{Formula}
use Rattle.ae_core.specs.declared.problems.Signature.{Signature}
use Rattle.ae_core.proofs.PutSorts.{term_put}
use Rattle.ae_core.proofs.PuttingLaws.{put_bound, put_num, put_fresh, put_apply}
use Rattle.ae_core.proofs.SortLaws.{sort_in_bound, sort_in_fresh}
use Rattle.ae_rules.specs.Instances.{count_from}
use Rattle.ae_rules.specs.Lines.{IsAc}
use Rattle.ae_journal.specs.Ground.{subterms, atom_terms, HasFragmentSort, JoinsNoEnumeration, IsFragmentTerm, IsGroundFormula}
use Rattle.ae_reach.proofs.Simple.{simple_put}
use Rattle.ae_ground_laws.proofs.Plain.{plain_put, constants_plain, atoms_of_put}
use Rattle.ae_ground_laws.proofs.Subterms.{subterms_bound, subterms_num, subterms_fresh, subterms_apply, all_flat, all_apart, number_no_application, constant_no_application, same_head}

abbrev IsConstant : Term → Type 0
IsConstant t = (n : ℕ) × (s : Sort) × (Fresh n s ≡ t)

all_constants : (m : ℕ) (ss : List Sort) → AllByRecursion IsConstant (count_from m ss)
all_constants m [] = tt
all_constants m (s ∷ ss) = ((m, s, refl), all_constants (suc m) ss)

pub constants_sorted : (sig : Signature) (m : ℕ) (ss : List Sort) → list_all (is_closed_sort sig) ss ≡ true → all_known (map (sort_of sig) (count_from m ss)) ≡ Some ss
constants_sorted sig m [] c = refl
constants_sorted sig m (s ∷ ss) c =
    let p = and_parts (is_closed_sort sig s) (list_all (is_closed_sort sig) ss) c in
    let one : sort_of sig (Fresh m s) ≡ Some s = sort_in_fresh sig (is_closed_sort sig) [] m s ∙ ap (λ b. when b s) p.0 in
    λ i. (one i >>= λ x. constants_sorted sig (suc m) ss p.1 i >>= λ xs. Some (x ∷ xs))

-- what is put for a variable
at_variable : (ts : List Term) (i : ℕ) (t : Term) → slice_get (reverse ts) i ≡ Some t → put_terms 0 ts (Bound i) ≡ t
at_variable ts i t e =
    let z : i - 0 ≡ i = omega arith in
    put_bound 0 ts i ∙ (λ k. cond (below_zero i k) (Bound i) (or_else (slice_get (reverse ts) (z k)) (Bound (i - length ts)))) ∙ ap (λ o. or_else o (Bound (i - length ts))) e

module _ (sig : Signature) (env : List Sort) (closed : list_all (is_closed_sort sig) env ≡ true) where
  abbrev put : Term → Term
  put = put_terms 0 (count_from 0 env)

  -- a term keeps its sort
  stays : (t : Term) → Refines (sort_in sig (is_closed_sort sig) env t) (sort_of sig (put t))
  stays t =
      subst (λ (e : List Sort). Refines (sort_in sig (is_closed_sort sig) e t) (sort_of sig (put t))) (append-nil env)
      (term_put sig (is_closed_sort sig) env (count_from 0 env) (constants_sorted sig 0 env closed) [] t)

  sorted_put : (t : Term) → HasFragmentSort sig env t → HasFragmentSort sig [] (put t)
  sorted_put t h = (h.0, stays t h.0 h.1, h.2)

  -- ---- what stands in a term with constants put
  abbrev Good : Term → Type 0
  Good t = AllByRecursion (HasFragmentSort sig []) (subterms t) × AllByRecursion (JoinsNoEnumeration sig []) (subterms t)

  abbrev PutGood : Term → Type 0
  PutGood t = AllByRecursion (HasFragmentSort sig env) (subterms t) → AllByRecursion (JoinsNoEnumeration sig env) (subterms t) → Good (put t)

  -- a term in which nothing else stands
  alone : (t : Term) → subterms t ≡ t ∷ [] → ((h : Head) (ss : List Sort) (us : List Term) → t ≡ Apply h ss us → ⊥) → HasFragmentSort sig [] t → Good t
  alone t e n f = (
    subst (AllByRecursion (HasFragmentSort sig [])) (sym e) (f, tt),
    subst (AllByRecursion (JoinsNoEnumeration sig [])) (sym e) ((λ h ss us o q ac so. absurd (n h ss us q)), tt),
  )

  constant_good : (n : ℕ) (s : Sort) → HasFragmentSort sig [] (Fresh n s) → Good (Fresh n s)
  constant_good n s f = alone (Fresh n s) (subterms_fresh n s) (constant_no_application n s) f

  variable : (i : ℕ) → HasFragmentSort sig env (Bound i) → Good (put (Bound i))
  variable i h =
      let k = known_at (sort_of sig) (count_from 0 env) env i h.0 (constants_sorted sig 0 env closed) (sym (sort_in_bound sig (is_closed_sort sig) env i) ∙ h.1) in
      let c = all_at IsConstant (reverse (count_from 0 env)) i k.0 (all_reversed IsConstant (count_from 0 env) (all_constants 0 env)) k.1 in
      let e : Fresh c.0 c.1 ≡ put (Bound i) = c.2 ∙ sym (at_variable (count_from 0 env) i k.0 k.1) in
      subst Good e (constant_good c.0 c.1 (subst (HasFragmentSort sig []) (sym e) (sorted_put (Bound i) h)))

  joins_put : (h : Head) (ss : List Sort) (us : List Term) → HasFragmentSort sig env (Apply h ss us) → JoinsNoEnumeration sig env (Apply h ss us) → JoinsNoEnumeration sig [] (Apply h ss (map put us))
  joins_put h ss us f j k os vs s e ac so =
      let now : sort_of sig (Apply h ss (map put us)) ≡ Some f.0 = ap (sort_of sig) (sym (put_apply 0 (count_from 0 env) h ss us)) ∙ stays (Apply h ss us) f.0 f.1 in
      let same : f.0 ≡ s = same_Some f.0 s (sym now ∙ so) in
      j h ss us s refl (subst (IsAc sig) (sym (same_head h k ss os (map put us) vs e)) ac) (f.1 ∙ ap (λ (o : Sort). Some o) same)

  applied : (h : Head) (ss : List Sort) (us : List Term) → AllByRecursion PutGood us → PutGood (Apply h ss us)
  applied h ss us each a b =
      let f = subst (AllByRecursion (HasFragmentSort sig env)) (subterms_apply h ss us) a in
      let j = subst (AllByRecursion (JoinsNoEnumeration sig env)) (subterms_apply h ss us) b in
      let w = all_good us each (all_apart (HasFragmentSort sig env) us f.1) (all_apart (JoinsNoEnumeration sig env) us j.1) in
      subst Good (sym (put_apply 0 (count_from 0 env) h ss us)) (
        subst (AllByRecursion (HasFragmentSort sig [])) (sym (subterms_apply h ss (map put us))) (
          subst (HasFragmentSort sig []) (put_apply 0 (count_from 0 env) h ss us) (sorted_put (Apply h ss us) f.0),
          all_flat (HasFragmentSort sig []) (map put us) (all_weaker Good (λ t. AllByRecursion (HasFragmentSort sig []) (subterms t)) (λ t g. g.0) (map put us) w),
        ),
        subst (AllByRecursion (JoinsNoEnumeration sig [])) (sym (subterms_apply h ss (map put us))) (
          joins_put h ss us f.0 j.0,
          all_flat (JoinsNoEnumeration sig []) (map put us) (all_weaker Good (λ t. AllByRecursion (JoinsNoEnumeration sig []) (subterms t)) (λ t g. g.1) (map put us) w),
        ),
      )
    where
      all_good : (us : List Term) → AllByRecursion PutGood us → AllByRecursion (λ t. AllByRecursion (HasFragmentSort sig env) (subterms t)) us
          → AllByRecursion (λ t. AllByRecursion (JoinsNoEnumeration sig env) (subterms t)) us → AllByRecursion Good (map put us)
      all_good [] each a b = tt
      all_good (u ∷ us) each a b = (each.0 a.0 b.0, all_good us each.1 a.1 b.1)

  put_good : (t : Term) → PutGood t
  put_good =
      by_terms PutGood
      (λ i a b. variable i (subst (AllByRecursion (HasFragmentSort sig env)) (subterms_bound i) a).0)
      (λ x y r a b.
      let e = put_num 0 (count_from 0 env) x y r in
      subst Good (sym e)
      (alone (Num x y r) (subterms_num x y r) (number_no_application x y r)
      (subst (HasFragmentSort sig []) e (sorted_put (Num x y r) (subst (AllByRecursion (HasFragmentSort sig env)) (subterms_num x y r) a).0))))
      (λ n s a b.
      let e = put_fresh 0 (count_from 0 env) n s in
      subst Good (sym e)
      (constant_good n s (subst (HasFragmentSort sig []) e (sorted_put (Fresh n s) (subst (AllByRecursion (HasFragmentSort sig env)) (subterms_fresh n s) a).0))))
      applied

  fragment_put : (t : Term) → IsFragmentTerm sig env t → IsFragmentTerm sig [] (put t)
  fragment_put t i = record {
    plain = plain_put (count_from 0 env) (constants_plain 0 env) t i.plain;
    sorted = (put_good t i.sorted i.joins).0;
    joins = (put_good t i.sorted i.joins).1;
  }

  -- ---- formulas
  pub formula_put : (f : Formula) → IsGroundFormula sig env f → IsGroundFormula sig [] (put_formula (count_from 0 env) f)
  formula_put f i = record {
    simple = simple_put (count_from 0 env) f 0 ∙ i.simple;
    terms = subst (AllByRecursion (IsFragmentTerm sig [])) (sym (atoms_of_put (count_from 0 env) f i.simple))
        (all_of_map (IsFragmentTerm sig []) put (atom_terms f) (all_weaker (IsFragmentTerm sig env) (λ t. IsFragmentTerm sig [] (put t)) fragment_put (atom_terms f) i.terms));
  }
