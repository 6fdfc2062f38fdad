-- Two numbers that a trail denies to be equal.
use Rattle.std.specs.Prelude.{ℕ, ◌≡◌, Bool, true, false, List, [], ◌∷◌, slice_get, Option, Some, IfSome}
use Rattle.std.specs.List.{AllByRecursion, Contains}
use Rattle.std.proofs.Common.{refl, sym, ap, ◌∙◌, subst}
use Rattle.std.proofs.lemmas.Option.{same_Some}
use Rattle.ae_base.proofs.Options.{bind_some, never_some}
use Rattle.ae_base.specs.Options.{when}
use Rattle.ae_between_rounds.specs.Between.{IsBetweenRounds}
use Rattle.ae_between_rounds.specs.Finished.{IsOpenSearch}
use Rattle.ae_between_rounds.specs.declared.search.Search.{Search}
use Rattle.ae_core.specs.Sorts.{same_numeric, sort_of}
use Rattle.ae_core.specs.declared.formulas.Formula.{Formula, Formula-F, Eq, Lt, out-Formula, roll-Formula, roll-out-Formula}
use Rattle.ae_core.specs.declared.formulas.Formula.TheOpen as layer
use Rattle.ae_core.specs.declared.formulas.Formula.TheVariants.{rolls-Eq}
use Rattle.ae_core.specs.declared.formulas.Lit.{Lit}
use Rattle.ae_core.specs.declared.formulas.Quant.{Quant}
use Rattle.ae_core.specs.declared.problems.Problem.{Problem}
use Rattle.ae_core.specs.declared.problems.Signature.{Signature}
use Rattle.ae_core.specs.declared.terms.Term.{Term}
use Rattle.ae_decide.specs.Values.{place_from, value_of}
use Rattle.ae_explain.specs.declared.trail.Assigned.{Assigned}
use Rattle.ae_goal_names.proofs.Outer.{outside_eq}
use Rattle.ae_journal.proofs.Splits.{contains_here, contains_later}
use Rattle.ae_journal.specs.Systems.{IsCompleted, forms_in, forms_step}
use Rattle.ae_journal.specs.declared.systems.System.{System}
use Rattle.ae_num.specs.Forms.{IsNormal}
use Rattle.ae_num.specs.declared.forms.Lin.{Lin}
use Rattle.ae_num.specs.declared.forms.Value.{Value, Number, fold-roll-Value}
use Rattle.ae_num.specs.declared.forms.Value.TheOpen as value_layer
use Rattle.ae_num.specs.declared.forms.Value.TheVariants.{rolls-Number}
use Rattle.ae_ordered_rounds.proofs.Orderable.{below_of, is_ordered, lowest_of, over_of}
use Rattle.ae_ordered_rounds.specs.Inner.Meeting.{AreDenied, HasNormalForms, IsMeeting}
use Rattle.ae_ordered_rounds.specs.Inner.Orderable.{HasInequality, IsOrderable}
use Rattle.ae_rules.specs.Clauses.{Clause, is_false, is_true}
use Rattle.ae_rules.specs.Instances.{trichotomy}
use Rattle.ae_solved_orders.proofs.Passed.{names_of}
use Rattle.ae_tight_sides.specs.declared.sides.Sides.{Sides}
use Rattle.ae_theory.specs.Names.{terms_in}
use Rattle.ae_unordered.specs.Denied.{denied_by, denied_equation, equation_by}

-- ---- forms of numbers
forms-number : (f : Lin) → forms_in (Number f) ≡ f ∷ []
unfolding forms_in
forms-number f = ap forms_in (sym (rolls-Number f)) ∙ fold-roll-Value (List Lin) forms_step (value_layer.Number f)

pub normal_forms : (sig : Signature) (y : System) → IsCompleted sig y → HasNormalForms y
normal_forms sig y h n f e = (subst (AllByRecursion IsNormal) (forms-number f) (h.normal n (Number f) e)).0

pub form_normal : (y : System) → HasNormalForms y → (t : Term) (v : Value) (f : Lin) → value_of y t ≡ Some v → v ≡ Number f → IsNormal f
form_normal y h t v f e is = let (m, a, b) = bind_some (place_from 0 y.names t) (λ n. slice_get y.values n) v e in h m f (b ∙ ap (λ (w : Value). Some w) is)

-- ---- numbers have an order
pub numbers_order : (sig : Signature) (s u : Term) → same_numeric (sort_of sig s) (sort_of sig u) ≡ true → (c : Clause) × (trichotomy sig s u ≡ Some c)
numbers_order sig s u e =
    let c : Clause = is_true (Eq s u) ∷ is_true (Lt s u) ∷ is_true (Lt u s) ∷ [] in
    (c, ap (λ (w : Bool). when w c) e)

-- ---- literals that deny equations
module _ (l : Lit) (s u : Term) where
  equal_by : (y : Formula-F Formula Quant) → equation_by y ≡ Some (s, u) → y ≡ layer.Eq s u
  equal_by (layer.Eq a b) h = ap (λ (z : Term × Term). layer.Eq z.0 z.1) (same_Some (a, b) (s, u) h)
  equal_by layer.True h = never_some (s, u) h
  equal_by layer.False h = never_some (s, u) h
  equal_by (layer.Lt a b) h = never_some (s, u) h
  equal_by (layer.Le a b) h = never_some (s, u) h
  equal_by (layer.Pred q ss ts) h = never_some (s, u) h
  equal_by (layer.Not a) h = never_some (s, u) h
  equal_by (layer.And a b) h = never_some (s, u) h
  equal_by (layer.Or a b) h = never_some (s, u) h
  equal_by (layer.Xor a b) h = never_some (s, u) h
  equal_by (layer.Iff a b) h = never_some (s, u) h
  equal_by (layer.All q) h = never_some (s, u) h
  equal_by (layer.Ex q) h = never_some (s, u) h

  equation_is : equation_by (out-Formula l.formula) ≡ Some (s, u) → l.formula ≡ Eq s u
  equation_is h = sym (roll-out-Formula l.formula) ∙ ap roll-Formula (equal_by (out-Formula l.formula) h) ∙ rolls-Eq s u

  by_sign : (sign : Bool) → l.positive ≡ sign → denied_by sign l.formula ≡ Some (s, u) → l ≡ is_false (Eq s u)
  by_sign true p h = never_some (s, u) h
  by_sign false p h = λ i. record { positive = p i; formula = equation_is h i }

  pub denied_is : denied_equation l ≡ Some (s, u) → l ≡ is_false (Eq s u)
  denied_is h = by_sign l.positive refl h

-- ---- their order may come in
module _ (p : Problem) (g bound : ℕ) (o : Search) (between : IsBetweenRounds p g bound o) (is_open : IsOpenSearch o) (inequal : HasInequality o.solver.propagation.trail) (both : Sides)
    (denied : AreDenied p.signature o.solver.propagation.trail both) where
  left_named : Contains (terms_in o.store) both.left
  left_named =
      names_of p g bound o between is_open (is_false (Eq both.left both.right)) denied.unequal both.left
      (subst (λ (ws : List Term). Contains ws both.left) (sym (outside_eq both.left both.right)) (contains_here both.left (both.right ∷ [])))

  right_named : Contains (terms_in o.store) both.right
  right_named =
      names_of p g bound o between is_open (is_false (Eq both.left both.right)) denied.unequal both.right
      (subst (λ (ws : List Term). Contains ws both.right) (sym (outside_eq both.left both.right))
      (contains_later both.left (both.right ∷ []) both.right (contains_here both.right [])))

  pub denied_orderable : IsOrderable p g o both.left both.right
  denied_orderable = record {
    may = record {
      entered = λ x told. let lawful = between.searching.lawful x told in (lawful.entered both.left left_named, lawful.entered both.right right_named);
      below = (below_of p g bound o between both.left left_named, below_of p g bound o between both.right right_named);
      lowest = λ low. (lowest_of p g bound o between low both.left left_named, lowest_of p g bound o between low both.right right_named);
      over = (over_of p g bound o between both.left left_named, over_of p g bound o between both.right right_named);
      ordered = is_ordered p g bound o between is_open inequal.1.literal inequal.0.right inequal.0.left inequal.1.strict inequal.1.holds inequal.1.is;
    };
    numbers = denied.numbers;
  }

-- what was found of the trail
pub met_ones : (sig : Signature) (t : List Assigned) (found : Option Sides) (both : Sides) → found ≡ Some both → IfSome found (IsMeeting sig t) → IsMeeting sig t both
met_ones sig t found both e h = subst (λ (z : Option Sides). IfSome z (IsMeeting sig t)) e h
