-- Two single names that differ.
use Rattle.std.specs.Prelude.{ℕ, ◌<◌, ◌≤◌, Bool, true, false, List, [], ◌∷◌, ◌++◌, ◌≡◌, length, get_or, Some}
use Rattle.std.specs.List.{AllByRecursion}
use Rattle.std.proofs.Common.{refl, sym, ap, subst, arith, inl, inr}
use Rattle.ae_conflicts.specs.Saying.{RestsOnAssumed}
use Rattle.ae_core.specs.Sorts.{sort_of}
use Rattle.ae_core.specs.declared.terms.Sort.{Sort}
use Rattle.ae_equations.specs.declared.queue.Waiting.{Waiting}
use Rattle.ae_just.specs.declared.steps.Step.{Step}
use Rattle.ae_multiset.specs.Multisets.{IsLess, IsSame}
use Rattle.ae_multiset.proofs.Comparing.{less_differs}
use Rattle.ae_multiset.proofs.Counts.{same}
use Rattle.ae_multiset_steps.specs.Equating.{RestsOnThese}
use Rattle.ae_pmap.specs.Forest.{present}
use Rattle.ae_settled.specs.Swept.{AreOwn}
use Rattle.ae_state_steps.specs.ManySteps.{IsOfSort, StatesMany}
use Rattle.ae_store.specs.Stores.{Stored}
use Rattle.ae_store.specs.Shapes.{shapes, shape_of}
use Rattle.ae_store.specs.Terms.{named}
use Rattle.ae_store.proofs.PartLaws.{is_one}
use Rattle.ae_store.proofs.TermLaws.{length_terms}
use Rattle.ae_sweeps.specs.Given.{rep_in}
use Rattle.ae_theory.specs.Names.{terms_in}
use Rattle.ae_value_table.specs.Alike.{alike}
use Rattle.ae_state.specs.declared.holding.Holding.{Holding}
use Rattle.ae_state.specs.Names.{all_terms}
use Rattle.ae_turns.specs.Representing.{IsTaken, AreRepresentatives}
use Rattle.std.proofs.lemmas.List.{length-map}
use Rattle.ae_representatives.proofs.MoreSteps.{rests_by_these}
use Rattle.ae_representatives.proofs.Taken.{as_many, sorted_within, own_apart}
use Rattle.ae_orienting.specs.Inner.Reduced.{IsFirstReduced}

-- the smaller side has no more names
pub no_longer : (l r : List ℕ) → IsLess r l → length r ≤ length l
no_longer l r (inl k) = omega (arith, k)
no_longer l r (inr (e, _)) = omega (arith, e)

pub single : (xs : List ℕ) (x : ℕ) → 0 < length xs → length xs < 2 → x ≡ get_or xs 0 0 → xs ≡ x ∷ []
single [] x some one e = absurd (omega (arith, some))
single (y ∷ []) x some one e = ap (λ z. z ∷ []) (sym e)
single (y ∷ z ∷ xs) x some one e = absurd (omega (arith, one))

-- one of the two truths
by_truth : (b : Bool) → (b ≡ true → ⊥) → b ≡ false
by_truth true h = absurd (h refl)
by_truth false h = refl

module _ (o : Holding) (s : Stored) (t : IsTaken o s) (reps : List ℕ) (r : AreRepresentatives o reps) (e : Waiting) (h : IsFirstReduced s o reps e) (falls : IsLess e.right e.left) (one : length e.left < 2)
    (x y : ℕ) (x_is : x ≡ get_or e.left 0 0) (y_is : y ≡ get_or e.right 0 0) where
  pub left_is : e.left ≡ x ∷ []
  left_is = single e.left x (((h.to).said).left_some) one x_is

  pub right_is : e.right ≡ y ∷ []
  right_is = single e.right y (((h.to).said).right_some) (omega (arith, no_longer e.left e.right falls, one)) y_is

  pub names_stated : StatesMany o.justs e.step e.symbol (x ∷ []) (y ∷ [])
  names_stated = subst (λ (z : List ℕ × List ℕ). StatesMany o.justs e.step e.symbol z.0 z.1) (λ i. (left_is i, right_is i)) (((h.to).said).states)

  both_sorted : AllByRecursion (IsOfSort s.signature (terms_in s) ((((h.to).said).names).sort)) (x ∷ y ∷ [])
  both_sorted =
      subst (λ (z : List ℕ × List ℕ). AllByRecursion (IsOfSort s.signature (terms_in s) ((((h.to).said).names).sort)) (z.0 ++ z.1)) (λ i. (left_is i, right_is i)) ((((h.to).said).names).sorted)

  pub names_sorted : (sort : Sort) × (sort_of s.signature (named (terms_in s) x) ≡ Some sort) × (sort_of s.signature (named (terms_in s) y) ≡ Some sort)
  names_sorted = ((((h.to).said).names).sort, both_sorted.0, both_sorted.1.0)

  nodes_many : length (terms_in s) ≡ length s.nodes
  nodes_many = omega (arith, length_terms (shapes s.nodes), length-map s.nodes shape_of)

  pub names_within : (x < length s.nodes) × (y < length s.nodes)
  names_within =
      (omega (arith, nodes_many, sorted_within o s t names_sorted.0 x names_sorted.1), omega (arith, nodes_many, sorted_within o s t names_sorted.0 y names_sorted.2))

  left_own : AreOwn (rep_in reps) (x ∷ [])
  left_own = subst (λ (xs : List ℕ). AreOwn (rep_in reps) xs) left_is ((h.to).left).own

  right_own : AreOwn (rep_in reps) (y ∷ [])
  right_own = subst (λ (xs : List ℕ). AreOwn (rep_in reps) xs) right_is ((h.to).right).own

  differ : x ≡ y → ⊥
  differ z =
      less_differs (y ∷ []) (x ∷ []) (subst (λ (w : List ℕ × List ℕ). IsLess w.0 w.1) (λ i. (right_is i, left_is i)) falls)
      (subst (λ (k : ℕ). IsSame (y ∷ []) (k ∷ [])) (sym z) (same (y ∷ [])))

  pub names_apart : alike o.values x y ≡ false
  names_apart =
      by_truth (alike o.values x y)
      (λ k. differ (own_apart o s t reps r x y (omega (arith, r.one_each, as_many o s t, sorted_within o s t names_sorted.0 x names_sorted.1))
      (omega (arith, r.one_each, as_many o s t, sorted_within o s t names_sorted.0 y names_sorted.2)) left_own.0 right_own.0 k))

-- a step that rests on the equation's rests on assumed literals alone
pub names_rest_on : (o : Holding) (s : Stored) (reps : List ℕ) (e : Waiting) (h : IsFirstReduced s o reps e) (js : List Step) (id : ℕ) → RestsOnThese o.justs js id (e.step ∷ [])
    → RestsOnAssumed (all_terms o) js (present o.assumed) id
names_rest_on o s reps e h js id r =
    rests_by_these o js (e.step ∷ []) id r (λ p m. subst (RestsOnAssumed (all_terms o) o.justs (present o.assumed)) (sym (is_one p e.step m)) (h.to).rests)
