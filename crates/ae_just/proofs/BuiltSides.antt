-- Sides of names are terms built of the names, and so are those of lines that derive equations.
use Rattle.std.specs.Prelude.{ℕ, ◌<◌, ◌⊎◌, Bool, true, false, cond, List, [], ◌∷◌, ◌≡◌, length, slice_get, Option, Some, None}
use Rattle.std.specs.List.{AllByRecursion, Contains}
use Rattle.std.proofs.Common.{refl, sym, ap, ◌∙◌, subst, arith, inl, inr}
use Rattle.std.proofs.lemmas.Option.{get_or_from_slice_get, slice_get_within}
use Rattle.ae_base.specs.Options.{or_else, ◌>>=◌}
use Rattle.ae_base.proofs.AllOf.{all_at, all_from_places}
use Rattle.ae_base.proofs.ListFacts.{value_at}
use Rattle.ae_base.proofs.Options.{known_some}
use Rattle.ae_core.specs.Sorts.{sort_of, is_closed_sort}
use Rattle.ae_core.specs.declared.terms.Sort.{Sort, Int, Real}
use Rattle.ae_core.specs.declared.terms.Head.{Head}
use Rattle.ae_core.specs.declared.terms.Op.TheVariants as op
use Rattle.ae_core.specs.declared.terms.Term.{Term, Bound, Apply}
use Rattle.ae_core.specs.declared.problems.Signature.{Signature}
use Rattle.ae_core.specs.declared.proofs.Deriv.{Deriv}
use Rattle.ae_core.specs.declared.proofs.EqLine.{EqLine}
use Rattle.ae_core.proofs.SortLaws.{sort_in_bound}
use Rattle.ae_core.proofs.SortFacts.{same_known_is}
use Rattle.ae_rules.specs.Built.{IsBuilt, of_name, of_number, of_product, of_sum, of_symbol, of_unplain, IsBuiltEquation, HasFactorsWithin, HasIntegers}
use Rattle.ae_rules.specs.Lines.{Fact, states}
use Rattle.ae_store.specs.Terms.{named}
use Rattle.ae_just.specs.declared.steps.Times.{Times}
use Rattle.ae_just.specs.declared.steps.Side.{Side}
use Rattle.ae_just.specs.declared.steps.Side.TheVariants as side
use Rattle.ae_just.specs.declared.steps.Step.{Step}
use Rattle.ae_just.specs.Needed.{Derives}
use Rattle.ae_just.specs.Sides.{side_term, product, numeric, joined, whole, sum_from, many_from, IsWithin, ArePartsWithin}
use Rattle.ae_just.specs.Steps.{fact_of, IsAllowedStep, IsOfNames, IsSymbolOfNames, IsStepOfNames, IsStepWithin, Fits}
use Rattle.ae_just.proofs.EmitLaws.{rest_on_earlier}
use Rattle.ae_just.proofs.NeededLaws.{needed_within}
use Rattle.ae_just.proofs.WithinLaws.{sorted_within}

module _ (sig : Signature) (ts : List Term) where
  -- the term of a name is one of the terms
  name_is : (n : ℕ) (t : Term) → slice_get ts n ≡ Some t → named ts n ≡ t
  name_is n t e = ap (λ o. or_else o (Bound 0)) e

  name_in : (n : ℕ) → n < length ts → Contains ts (named ts n)
  name_in n l = let t = value_at ts n l in (n, l, get_or_from_slice_get ts n t.0 (named ts n) t.1 ∙ sym (name_is n t.0 t.1))

  name_built : (n : ℕ) → n < length ts → IsBuilt sig ts (named ts n)
  name_built n l = of_name (named ts n) (name_in n l)

  -- a name of an integer
  pub integers_of : (n : ℕ) → sort_of sig (named ts n) ≡ Some Int → HasIntegers sig ts
  integers_of n e =
      let l : n < length ts = sorted_within sig ts n Int e in
      let t = value_at ts n l in
      (n, t.0, t.1, sym (ap (sort_of sig) (name_is n t.0 t.1)) ∙ e)

  -- sums of a sort of which a name is
  pub numbers_of : (real : Bool) (n : ℕ) → sort_of sig (named ts n) ≡ Some (cond real Real Int) → (real ≡ true) ⊎ HasIntegers sig ts
  numbers_of true n e = inl refl
  numbers_of false n e = inr (integers_of n e)

  product_built : (real : Bool) (p : Times) → p.name < length ts → IsBuilt sig ts (product real ts p)
  product_built real p l = of_product (product real ts p) real p.factor (named ts p.name) refl (name_in p.name l)

  sum_built : (real : Bool) (t : Term) (ps : List Times) → IsBuilt sig ts t → ArePartsWithin (length ts) ps → IsBuilt sig ts (sum_from real ts t ps)
  sum_built real t [] b w = b
  sum_built real t (p ∷ ps) b w =
      let u = joined (numeric real op.Add) [] t (product real ts p) in
      sum_built real u ps (of_sum u real t (product real ts p) refl b (product_built real p w.0)) w.1

  joined_built : (h : Head) (ss : List Sort) (t u : Term) → IsSymbolOfNames sig ts h ss → IsBuilt sig ts t → IsBuilt sig ts u → IsBuilt sig ts (joined h ss t u)
  joined_built h ss t u o b c = elim o [
    | inl d ↦ of_symbol (joined h ss t u) d.0 ss t u (ap (λ k. Apply k ss (t ∷ u ∷ [])) d.1) d.2 d.3 b c
    | inr n ↦ of_unplain (joined h ss t u) h ss t u refl n b c
  ]

  many_built : (h : Head) (ss : List Sort) (t : Term) (ns : List ℕ) → IsSymbolOfNames sig ts h ss → IsBuilt sig ts t → AllByRecursion (λ a. a < length ts) ns → IsBuilt sig ts (many_from h ss ts t ns)
  many_built h ss t [] d b w = b
  many_built h ss t (n ∷ ns) d b w = many_built h ss (joined h ss t (named ts n)) ns d (joined_built h ss t (named ts n) d b (name_built n w.0)) w.1

  -- a side of names, which has a sort
  side_built : (s : Side) → IsWithin (length ts) s → IsOfNames sig ts s → (r : Sort) → sort_of sig (side_term ts s) ≡ Some r → IsBuilt sig ts (side_term ts s)
  side_built (side.Name n) w o r k = name_built n w
  side_built (side.Sum [] c real) w o r k = of_number (whole real c) real c refl o
  side_built (side.Sum (p ∷ ps) c real) w o r k =
      let s = sum_from real ts (product real ts p) ps in
      of_sum (joined (numeric real op.Add) [] s (whole real c)) real s (whole real c) refl (sum_built real (product real ts p) ps (product_built real p w.0) w.1) (of_number (whole real c) real c refl o)
  side_built (side.Many u []) w o r k = absurd (let e : ◌≡◌ {A = Option Sort} None (Some r) = sym (sort_in_bound sig (is_closed_sort sig) [] 0) ∙ k in cc e)
  side_built (side.Many u (n ∷ ns)) w o r k = many_built u.head u.sorts (named ts n) ns o (name_built n w.0) w.1

  -- the sides of a step that is allowed
  pub step_built : (earlier : List Step) (s : Step) → IsAllowedStep sig ts earlier s → IsStepWithin (length ts) s → IsStepOfNames sig ts s → IsBuilt sig ts (side_term ts s.left) × IsBuilt sig ts (side_term ts s.right)
  step_built earlier s a w o =
      let e = same_known_is (sort_of sig (side_term ts s.left)) (sort_of sig (side_term ts s.right)) a.sorted in
      let l = known_some (sort_of sig (side_term ts s.left)) e.0 in
      (side_built s.left w.0 o.0 l.0 l.1, side_built s.right w.1 o.1 l.0 (sym e.1 ∙ l.1))

-- the lines that derive the equation of a step
pub built_lines : (sig : Signature) (ts : List Term) (steps : List Step) (id : ℕ) (d : Deriv) → Fits sig ts steps → Derives sig ts steps id d → AllByRecursion (IsBuiltEquation sig ts) d.lines
built_lines sig ts steps id d fits derives = all_from_places (IsBuiltEquation sig ts) d.lines line
  where
    line : (i : ℕ) (l : EqLine) → slice_get d.lines i ≡ Some l → IsBuiltEquation sig ts l
    line i l e =
        let many = derives.one_each in
        let low : i < length d.lines = slice_get_within d.lines i l e in
        let k = value_at derives.needed i (omega (arith, many, low)) in
        let all = needed_within steps (rest_on_earlier sig ts steps fits.allowed) id derives.needed (slice_get_within steps id derives.step derives.is) derives.are_needed in
        let s = value_at steps k.0 (all_at (λ n. n < length steps) derives.needed i k.0 all k.1) in
        let says : ◌≡◌ {A = Option Fact} (Some (states l)) (Some (fact_of ts s.0)) = sym (ap (λ (o : Option EqLine). o >>= λ x. Some (states x)) e) ∙ derives.stated i k.0 s.0 k.1 s.1 in
        let is : states l ≡ fact_of ts s.0 = cc says in
        let b = step_built sig ts _ s.0 (fits.allowed.each k.0 s.0 s.1) (fits.within.each k.0 s.0 s.1) (fits.built.each k.0 s.0 s.1) in
        record {
          equation = ap (λ (f : Fact). f.relation) is;
          left = subst (λ (f : Fact). IsBuilt sig ts f.left) (sym is) b.0;
          right = subst (λ (f : Fact). IsBuilt sig ts f.right) (sym is) b.1;
          factors = all_at HasFactorsWithin d.lines i l derives.factors e;
        }
