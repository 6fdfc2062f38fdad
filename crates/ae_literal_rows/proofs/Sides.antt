-- The sides of an inequality literal: its formula is an atom, they have names, and they are numbers of one sort.
use Rattle.std.specs.Prelude.{◌≡◌, Bool, true, false, List, [], ◌∷◌, Option, Some, None}
use Rattle.std.specs.List.{Contains}
use Rattle.std.proofs.Common.{sym, ap, ◌∙◌, subst}
use Rattle.std.proofs.lemmas.Bool.{and_parts}
use Rattle.ae_base.proofs.Decided.{decided_yes}
use Rattle.ae_base.proofs.Tests.{by_either, false_true}
use Rattle.ae_core.specs.Decided.{Sort_discrete}
use Rattle.ae_core.specs.Sorts.{sort_of, formula_ok, is_closed_sort, is_numeric, same_sort, same_numeric}
use Rattle.ae_core.specs.declared.terms.Sort.{Sort, Int, Real}
use Rattle.ae_core.specs.declared.terms.Term.{Term}
use Rattle.ae_core.specs.declared.formulas.Formula.{Formula, Lt, Le}
use Rattle.ae_core.specs.declared.formulas.Formula.TheVariants.{outs-Lt, outs-Le}
use Rattle.ae_core.specs.declared.formulas.Lit.{Lit}
use Rattle.ae_core.specs.declared.problems.Signature.{Signature}
use Rattle.ae_core.proofs.Recursion.{fold_lt, fold_le}
use Rattle.ae_core.proofs.SortLaws.{formula_in_lt, formula_in_le}
use Rattle.ae_journal.specs.States.{inequality, outside, outside_step}
use Rattle.ae_journal.proofs.Splits.{contains_here, contains_later}
use Rattle.ae_store.specs.Stores.{Stored}
use Rattle.ae_theory.specs.Names.{is_atom, is_atom_of, terms_in, AreNamed}
use Rattle.ae_state_steps.specs.ValueSteps.{sort_for}
use Rattle.ae_given_rows.proofs.Literals.{of_sides}

less_atom : (a b : Term) → is_atom (Lt a b) ≡ true
unfolding is_atom
less_atom a b = ap is_atom_of (outs-Lt a b)

most_atom : (a b : Term) → is_atom (Le a b) ≡ true
unfolding is_atom
most_atom a b = ap is_atom_of (outs-Le a b)

less_outside : (a b : Term) → outside (Lt a b) ≡ a ∷ b ∷ []
unfolding outside
less_outside a b = fold_lt (List Term) (Unit {0}) outside_step (λ q. tt) a b

most_outside : (a b : Term) → outside (Le a b) ≡ a ∷ b ∷ []
unfolding outside
most_outside a b = fold_le (List Term) (Unit {0}) outside_step (λ q. tt) a b

-- ---- numbers of one sort

one_sort : (o p : Option Sort) → same_numeric o p ≡ true → (real : Bool) × (o ≡ Some (sort_for real)) × (p ≡ Some (sort_for real))
one_sort None p e = false_true e
one_sort (Some s) None e = false_true e
one_sort (Some s) (Some t) e = by_either (same_sort s Int) (same_sort s Real) parts.1 (λ i. these false (decided_yes (Sort_discrete s Int) i)) (λ r. these true (decided_yes (Sort_discrete s Real) r))
  where
    parts : (same_sort s t ≡ true) × (is_numeric s ≡ true)
    parts = and_parts (same_sort s t) (is_numeric s) e

    same : s ≡ t
    same = decided_yes (Sort_discrete s t) parts.0

    these : (real : Bool) → s ≡ sort_for real → (r : Bool) × (◌≡◌ {A = Option Sort} (Some s) (Some (sort_for r))) × (◌≡◌ {A = Option Sort} (Some t) (Some (sort_for r)))
    these real i = (real, ap (λ (o : Sort). Some o) i, ap (λ (o : Sort). Some o) (sym same ∙ i))

module _ (sig : Signature) where
  less_numbers : (a b : Term) → formula_ok sig (Lt a b) ≡ true → (real : Bool) × (sort_of sig a ≡ Some (sort_for real)) × (sort_of sig b ≡ Some (sort_for real))
  less_numbers a b e = one_sort (sort_of sig a) (sort_of sig b) (sym (formula_in_lt sig (is_closed_sort sig) [] a b) ∙ e)

  most_numbers : (a b : Term) → formula_ok sig (Le a b) ≡ true → (real : Bool) × (sort_of sig a ≡ Some (sort_for real)) × (sort_of sig b ≡ Some (sort_for real))
  most_numbers a b e = one_sort (sort_of sig a) (sort_of sig b) (sym (formula_in_le sig (is_closed_sort sig) [] a b) ∙ e)

module _ (l : Lit) (u w : Term) (strict : Bool) (is : inequality l ≡ Some (u, w, strict)) where
  pub sides_atom : is_atom l.formula ≡ true
  sides_atom = of_sides (λ (f : Formula). is_atom f ≡ true) l u w strict (less_atom w u) (most_atom u w) (most_atom w u) (less_atom u w) is

  module _ (s : Stored) where
    abbrev Named : Formula → Type 0
    Named f = AreNamed s f → Contains (terms_in s) u × Contains (terms_in s) w

    first_there : (f : Formula) (a b : Term) → outside f ≡ a ∷ b ∷ [] → Contains (outside f) a
    first_there f a b e = subst (λ (ts : List Term). Contains ts a) (sym e) (contains_here a (b ∷ []))

    second_there : (f : Formula) (a b : Term) → outside f ≡ a ∷ b ∷ [] → Contains (outside f) b
    second_there f a b e = subst (λ (ts : List Term). Contains ts b) (sym e) (contains_later a (b ∷ []) b (contains_here b []))

    pub sides_named : AreNamed s l.formula → Contains (terms_in s) u × Contains (terms_in s) w
    sides_named =
        of_sides Named l u w strict
        (λ n. (n u (second_there (Lt w u) w u (less_outside w u)), n w (first_there (Lt w u) w u (less_outside w u))))
        (λ n. (n u (first_there (Le u w) u w (most_outside u w)), n w (second_there (Le u w) u w (most_outside u w))))
        (λ n. (n u (second_there (Le w u) w u (most_outside w u)), n w (first_there (Le w u) w u (most_outside w u))))
        (λ n. (n u (first_there (Lt u w) u w (less_outside u w)), n w (second_there (Lt u w) u w (less_outside u w)))) is

  module _ (sig : Signature) where
    abbrev Sorted : Formula → Type 0
    Sorted f = formula_ok sig f ≡ true → (real : Bool) × (sort_of sig u ≡ Some (sort_for real)) × (sort_of sig w ≡ Some (sort_for real))

    turned : (real : Bool) × (sort_of sig w ≡ Some (sort_for real)) × (sort_of sig u ≡ Some (sort_for real)) → (real : Bool) × (sort_of sig u ≡ Some (sort_for real)) × (sort_of sig w ≡ Some (sort_for real))
    turned h = (h.0, h.2, h.1)

    pub sides_sorted : formula_ok sig l.formula ≡ true → (real : Bool) × (sort_of sig u ≡ Some (sort_for real)) × (sort_of sig w ≡ Some (sort_for real))
    sides_sorted = of_sides Sorted l u w strict (λ o. turned (less_numbers sig w u o)) (λ o. most_numbers sig u w o) (λ o. turned (most_numbers sig w u o)) (λ o. less_numbers sig u w o) is
