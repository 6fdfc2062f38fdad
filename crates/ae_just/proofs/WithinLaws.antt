-- The names in the sides of a well-sorted equation are names of the store.
use Rattle.std.specs.Prelude.{ℕ, ◌<◌, Bool, List, [], ◌∷◌, ◌++◌, ◌≡◌, length, take, slice_get, Option, Some, None}
use Rattle.std.specs.List.{AllByRecursion}
use Rattle.std.proofs.Common.{sym, ap, ◌∙◌, subst, arith, inl, inr}
use Rattle.std.proofs.lemmas.Bool.{cases_lt}
use Rattle.std.proofs.lemmas.List.{take-append-le, take_at}
use Rattle.std.proofs.lemmas.Option.{slice_get_past, slice_get_within}
use Rattle.ae_base.specs.Options.{or_else}
use Rattle.ae_base.proofs.Options.{each_known, known_some}
use Rattle.ae_core.specs.Sorts.{sort_of, is_closed_sort}
use Rattle.ae_core.specs.declared.terms.Sort.{Sort}
use Rattle.ae_core.specs.declared.terms.Head.{Head}
use Rattle.ae_core.specs.declared.terms.Op.TheVariants as op
use Rattle.ae_core.specs.declared.terms.Term.{Term, Bound}
use Rattle.ae_core.specs.declared.problems.Signature.{Signature}
use Rattle.ae_core.proofs.SortLaws.{sort_in_bound}
use Rattle.ae_core.proofs.SortFacts.{same_known_is}
use Rattle.ae_core.proofs.ClosedSorts.{applied_is}
use Rattle.ae_store.specs.Terms.{named}
use Rattle.ae_store.proofs.Gets.{get_pushed}
use Rattle.ae_just.specs.declared.steps.Times.{Times}
use Rattle.ae_just.specs.declared.steps.Side.{Side}
use Rattle.ae_just.specs.declared.steps.Side.TheVariants as side
use Rattle.ae_just.specs.declared.steps.Step.{Step}
use Rattle.ae_just.specs.Sides.{side_term, product, numeric, joined, whole, sum_from, many_from, IsWithin, ArePartsWithin}
use Rattle.ae_just.specs.Steps.{AreRuleFactorsWithin, IsAllowedStep, IsStepOfNames, IsStepWithin, Fits}

module _ (sig : Signature) (ts : List Term) where
  Known : Term → Type 0
  Known t = (s : Sort) × (sort_of sig t ≡ Some s)

  bound_unknown : (n : ℕ) → Known (Bound n) → ⊥
  unfolding Known
  bound_unknown n k = (let w : ◌≡◌ {A = Option Sort} None (Some k.0) = sym (sort_in_bound sig (is_closed_sort sig) [] n) ∙ k.1 in cc w)

  name_known : (a : ℕ) → Known (named ts a) → a < length ts
  name_known a k = elim (cases_lt a (length ts)) [
    | inl l ↦ l
    | inr l ↦ absurd (bound_unknown 0 (subst Known (ap (λ o. or_else o (Bound 0)) (slice_get_past ts a l)) k))
  ]

  -- a name with a sort is one of the store
  pub sorted_within : (a : ℕ) (s : Sort) → sort_of sig (named ts a) ≡ Some s → a < length ts
  unfolding Known
  sorted_within a s e = name_known a (s, e)

  joined_known : (h : Head) (ss : List Sort) (t u : Term) → Known (joined h ss t u) → Known t × Known u
  unfolding Known
  joined_known h ss t u k =
      let a = applied_is sig h ss (t ∷ u ∷ []) k.0 k.1 in
      let e = each_known (sort_of sig) (t ∷ u ∷ []) a.args a.are in
      (e.0, e.1.0)

  product_known : (real : Bool) (p : Times) → Known (product real ts p) → p.name < length ts
  product_known real p k = name_known p.name (joined_known (numeric real op.Mul) [] (whole real p.factor) (named ts p.name) k).1

  sum_known : (real : Bool) (t : Term) (ps : List Times) → Known (sum_from real ts t ps) → Known t × ArePartsWithin (length ts) ps
  sum_known real t [] k = (k, tt)
  sum_known real t (p ∷ ps) k =
      let r = sum_known real (joined (numeric real op.Add) [] t (product real ts p)) ps k in
      let j = joined_known (numeric real op.Add) [] t (product real ts p) r.0 in
      (j.0, (product_known real p j.1, r.1))

  many_known : (h : Head) (ss : List Sort) (t : Term) (ns : List ℕ) → Known (many_from h ss ts t ns) → Known t × AllByRecursion (λ a. a < length ts) ns
  many_known h ss t [] k = (k, tt)
  many_known h ss t (n ∷ ns) k =
      let r = many_known h ss (joined h ss t (named ts n)) ns k in
      let j = joined_known h ss t (named ts n) r.0 in
      (j.0, (name_known n j.1, r.1))

  side_known : (s : Side) → Known (side_term ts s) → IsWithin (length ts) s
  side_known (side.Name n) k = name_known n k
  side_known (side.Sum [] c real) k = tt
  side_known (side.Sum (p ∷ ps) c real) k =
      let j = joined_known (numeric real op.Add) [] (sum_from real ts (product real ts p) ps) (whole real c) k in
      let r = sum_known real (product real ts p) ps j.0 in
      (product_known real p r.0, r.1)
  side_known (side.Many u []) k = tt
  side_known (side.Many u (n ∷ ns)) k = let r = many_known u.head u.sorts (named ts n) ns k in (name_known n r.0, r.1)

  pub step_within : (earlier : List Step) (s : Step) → IsAllowedStep sig ts earlier s → IsStepWithin (length ts) s
  unfolding Known
  step_within earlier s a =
      let w = same_known_is (sort_of sig (side_term ts s.left)) (sort_of sig (side_term ts s.right)) a.sorted in
      let l = known_some (sort_of sig (side_term ts s.left)) w.0 in
      (side_known s.left (l.0, l.1), side_known s.right (l.0, sym w.1 ∙ l.1))

-- ---- one step more
pub fits_push : (sig : Signature) (ts : List Term) (steps steps' : List Step) (s : Step) → Fits sig ts steps → IsAllowedStep sig ts steps s → IsStepOfNames sig ts s → AreRuleFactorsWithin s.rule → steps' ≡ steps ++ s ∷ []
    → Fits sig ts steps'
fits_push sig ts steps steps' s f a b g p =
    subst (Fits sig ts) (sym p) (record { allowed = record { each = each }; within = record { each = inside }; built = record { each = built }; factors = record { each = kept } })
  where
    each : (i : ℕ) (t : Step) → slice_get (steps ++ s ∷ []) i ≡ Some t → IsAllowedStep sig ts (take i (steps ++ s ∷ [])) t
    each i t e = elim (get_pushed steps s i t e) [
      | inl q ↦
          let l : i < length steps = slice_get_within steps i t q in
          subst (λ xs. IsAllowedStep sig ts xs t) (sym (take-append-le i steps (s ∷ []) (omega (arith, l)))) (f.allowed.each i t q)
      | inr q ↦
          let x : take i (steps ++ s ∷ []) ≡ steps = take_at steps (s ∷ []) i (sym q.0) in
          subst (λ xs. IsAllowedStep sig ts xs t) (sym x) (subst (IsAllowedStep sig ts steps) q.1 a)
    ]

    inside : (i : ℕ) (t : Step) → slice_get (steps ++ s ∷ []) i ≡ Some t → IsStepWithin (length ts) t
    inside i t e = elim (get_pushed steps s i t e) [ inl q ↦ f.within.each i t q | inr q ↦ subst (IsStepWithin (length ts)) q.1 (step_within sig ts steps s a) ]

    built : (i : ℕ) (t : Step) → slice_get (steps ++ s ∷ []) i ≡ Some t → IsStepOfNames sig ts t
    built i t e = elim (get_pushed steps s i t e) [ inl q ↦ f.built.each i t q | inr q ↦ subst (IsStepOfNames sig ts) q.1 b ]

    kept : (i : ℕ) (t : Step) → slice_get (steps ++ s ∷ []) i ≡ Some t → AreRuleFactorsWithin t.rule
    kept i t e = elim (get_pushed steps s i t e) [ inl q ↦ f.factors.each i t q | inr q ↦ subst (λ (z : Step). AreRuleFactorsWithin z.rule) q.1 g ]
