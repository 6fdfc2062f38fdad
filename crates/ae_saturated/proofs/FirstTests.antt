-- The tests of a problem say `true` exactly where its hypotheses and the goal's negation stand, and where nothing is open.
use Rattle.std.proofs.Common.{inl, inr}
use Rattle.std.specs.Prelude.{ℕ, zero, suc, ◌<◌, Bool, true, false, not, ◌&&◌, nat_lt, ◌≡◌, List, [], ◌∷◌, length, slice_get, Option, Some, None}
use Rattle.std.specs.List.{Contains, list_all}
use Rattle.std.proofs.lemmas.Bool.{and_parts, and_from, cases_eq, false_from_ne_true}
use Rattle.std.proofs.lemmas.Option.{slice_get_within}
use mathlib.Core.Path.{refl, sym, ap, ◌∙◌}
use native.Mathlib.Omega.{arith}
use Rattle.ae_base.specs.Options.{known, only}
use Rattle.ae_base.proofs.Options.{bind_some, only_some}
use Rattle.ae_core.specs.declared.formulas.Formula.{Formula, Formula-F, out-Formula}
use Rattle.ae_core.specs.declared.formulas.Formula.TheOpen as layer
use Rattle.ae_core.specs.declared.formulas.Lit.{Lit}
use Rattle.ae_core.specs.declared.formulas.Quant.{Quant}
use Rattle.ae_core.specs.declared.problems.Problem.{Problem}
use Rattle.ae_rules.specs.Clauses.{yes_of, no_of}
use Rattle.ae_rules.specs.Derivations.{goal_body}
use Rattle.ae_rules.specs.Instances.{hypothesis}
use Rattle.ae_journal.specs.States.{Pattern, of_axiom, pattern_of, quant_of, IsFirst}
use Rattle.ae_journal.specs.States.IsFirst.{of_hypothesis, of_goal}
use Rattle.ae_journal.specs.declared.systems.Saturated.{Saturated}
use Rattle.ae_journal.proofs.Splits.{contains_here, contains_later}
use Rattle.ae_saturated.specs.Firsts.{yes_stands, no_stands, hypotheses_stand, firsts_stand, none_generic}
use Rattle.ae_saturated.specs.Literals.{is_closed_by, is_closed}
use Rattle.ae_saturated.specs.Open.{IsOpen}
use Rattle.ae_saturated.specs.Open.IsOpen.{quantified, generic}
use Rattle.ae_decide.proofs.NameTests.{denied}
use Rattle.ae_base.proofs.Tests.{false_true}
use Rattle.ae_saturated.proofs.Elements.{all_tells, stands_tells, by_stands}

-- ---- hypotheses
hypothesis_tells : (p : Problem) (g : ℕ) (ls : List Lit) (n k : ℕ) → hypotheses_stand p g ls n ≡ true → k < n → yes_stands ls (hypothesis p g k []) ≡ true
hypothesis_tells p g ls zero k e h = absurd (omega (arith, h))
hypothesis_tells p g ls (suc n) k e h =
    let q = and_parts (yes_stands ls (hypothesis p g n [])) (hypotheses_stand p g ls n) e in
    elim (cases_eq k n) as (λ _. yes_stands ls (hypothesis p g k []) ≡ true) [
      | inl i ↦ ap (λ m. yes_stands ls (hypothesis p g m [])) i ∙ q.0
      | inr d ↦ hypothesis_tells p g ls n k q.1 (omega (arith, h, d))
    ]

by_hypotheses : (p : Problem) (g : ℕ) (ls : List Lit) (n : ℕ) → ((k : ℕ) → yes_stands ls (hypothesis p g k []) ≡ true) → hypotheses_stand p g ls n ≡ true
by_hypotheses p g ls zero f = refl
by_hypotheses p g ls (suc n) f =
    and_from (yes_stands ls (hypothesis p g n [])) (hypotheses_stand p g ls n) (f n) (by_hypotheses p g ls n f)

pub one_hypothesis : (p : Problem) (g : ℕ) (ls : List Lit) (n k : ℕ) → k < n → yes_stands ls (hypothesis p g k []) ≡ false → hypotheses_stand p g ls n ≡ false
one_hypothesis p g ls n k h e = false_from_ne_true (hypotheses_stand p g ls n) (λ t. false_true (sym e ∙ hypothesis_tells p g ls n k t h))

module _ (p : Problem) (g : ℕ) (st : Saturated) where
  pub firsts_tell : firsts_stand p g st.literals ≡ true → (l : Lit) → IsFirst p g st l → Contains st.literals l
  firsts_tell e l (of_hypothesis k f i) =
      let q = and_parts (hypotheses_stand p g st.literals (length p.items)) (no_stands st.literals (goal_body p g)) e in
      let x = bind_some (only (nat_lt k g) (slice_get p.items k)) _ f i in
      let o = only_some (nat_lt k g) (slice_get p.items k) x.0 x.1 in
      stands_tells st.literals (yes_of f)
      (sym (ap (yes_stands st.literals) i) ∙ hypothesis_tells p g st.literals (length p.items) k q.0 (slice_get_within p.items k x.0 o.1))
  firsts_tell e l (of_goal f i) =
      let q = and_parts (hypotheses_stand p g st.literals (length p.items)) (no_stands st.literals (goal_body p g)) e in
      stands_tells st.literals (no_of f) (sym (ap (no_stands st.literals) i) ∙ q.1)

  pub by_firsts : ((l : Lit) → IsFirst p g st l → Contains st.literals l) → firsts_stand p g st.literals ≡ true
  by_firsts f =
      and_from (hypotheses_stand p g st.literals (length p.items)) (no_stands st.literals (goal_body p g))
      (by_hypotheses p g st.literals (length p.items) (λ k. yes k (hypothesis p g k []) refl)) (no (goal_body p g) refl)
    where
      yes : (k : ℕ) (o : Option Formula) → hypothesis p g k [] ≡ o → yes_stands st.literals o ≡ true
      yes k (Some a) i = by_stands st.literals (yes_of a) (f (yes_of a) (of_hypothesis k a i))
      yes k None i = refl

      no : (o : Option Formula) → goal_body p g ≡ o → no_stands st.literals o ≡ true
      no (Some a) i = by_stands st.literals (no_of a) (f (no_of a) (of_goal a i))
      no None i = refl

-- ---- axioms with type variables
item_tells : (p : Problem) (g : ℕ) (n k : ℕ) → none_generic p g n ≡ true → k < n → not (known (pattern_of p g (of_axiom k))) ≡ true
item_tells p g zero k e h = absurd (omega (arith, h))
item_tells p g (suc n) k e h =
    let q = and_parts (not (known (pattern_of p g (of_axiom n)))) (none_generic p g n) e in
    elim (cases_eq k n) as (λ _. not (known (pattern_of p g (of_axiom k))) ≡ true) [
      | inl i ↦ ap (λ m. not (known (pattern_of p g (of_axiom m)))) i ∙ q.0
      | inr d ↦ item_tells p g n k q.1 (omega (arith, h, d))
    ]

pub one_item : (p : Problem) (g : ℕ) (n k : ℕ) → k < n → not (known (pattern_of p g (of_axiom k))) ≡ false → none_generic p g n ≡ false
one_item p g n k h e = false_from_ne_true (none_generic p g n) (λ t. false_true (sym e ∙ item_tells p g n k t h))

pub generic_denied : (p : Problem) (g : ℕ) → none_generic p g (length p.items) ≡ true → (k : ℕ) (q : Pattern) → pattern_of p g (of_axiom k) ≡ Some q → ⊥
generic_denied p g e k q i =
    let x = bind_some (only (nat_lt k g) (slice_get p.items k)) _ q i in
    let o = only_some (nat_lt k g) (slice_get p.items k) x.0 x.1 in
    denied (known (pattern_of p g (of_axiom k))) (item_tells p g (length p.items) k e (slice_get_within p.items k x.0 o.1)) (ap known i)

-- some axiom has type variables where the test says `false`
generic_found : (p : Problem) (g : ℕ) (st : Saturated) (n : ℕ) → none_generic p g n ≡ false → IsOpen p g st
generic_found p g st zero e = absurd (false_true (sym e))
generic_found p g st (suc n) e = go (pattern_of p g (of_axiom n)) refl (generic_found p g st n) e
  where
    go : (o : Option Pattern) → pattern_of p g (of_axiom n) ≡ o → (none_generic p g n ≡ false → IsOpen p g st)
        → not (known o) && none_generic p g n ≡ false → IsOpen p g st
    go (Some q) i earlier f = generic n q i
    go None i earlier f = earlier f

pub open_axiom : (p : Problem) (g : ℕ) (st : Saturated) → none_generic p g (length p.items) ≡ false → IsOpen p g st
open_axiom p g st e = generic_found p g st (length p.items) e

-- ---- quantified literals
closed_quant : (k : Formula-F Formula Quant) (q : Quant) → is_closed_by k ≡ true → quant_of k ≡ Some q → ⊥
closed_quant (layer.All b) q e i = cc
closed_quant (layer.Ex b) q e i = cc
closed_quant layer.True q e i = cc
closed_quant layer.False q e i = cc
closed_quant (layer.Eq s t) q e i = cc
closed_quant (layer.Lt s t) q e i = cc
closed_quant (layer.Le s t) q e i = cc
closed_quant (layer.Pred r ss ts) q e i = cc
closed_quant (layer.Not a) q e i = cc
closed_quant (layer.And a b) q e i = cc
closed_quant (layer.Or a b) q e i = cc
closed_quant (layer.Xor a b) q e i = cc
closed_quant (layer.Iff a b) q e i = cc

module _ (ls : List Lit) (e : list_all is_closed ls ≡ true) where
  pub not_quantified : (l : Lit) (q : Quant) → Contains ls l → quant_of (out-Formula l.formula) ≡ Some q → ⊥
  not_quantified l q i f = closed_quant (out-Formula l.formula) q (all_tells is_closed ls e l i) f

pub not_open : (p : Problem) (g : ℕ) (st : Saturated) → list_all is_closed st.literals ≡ true → none_generic p g (length p.items) ≡ true → ¬ IsOpen p g st
not_open p g st e f (quantified l q i j) = not_quantified st.literals e l q i j
not_open p g st e f (generic k q i) = generic_denied p g f k q i

module _ (p : Problem) (g : ℕ) (st : Saturated) where
  open_by : (l : Lit) → Contains st.literals l → (b : Bool) → l.positive ≡ b → (k : Formula-F Formula Quant) → out-Formula l.formula ≡ k → is_closed_by k ≡ false
      → IsOpen p g st
  open_by l i b n (layer.All q) d e = quantified l q i (ap quant_of d)
  open_by l i b n (layer.Ex q) d e = quantified l q i (ap quant_of d)
  open_by l i b n (layer.Lt s t) d e = absurd (false_true (sym e))
  open_by l i b n (layer.Le s t) d e = absurd (false_true (sym e))
  open_by l i b n layer.True d e = absurd (false_true (sym e))
  open_by l i b n layer.False d e = absurd (false_true (sym e))
  open_by l i b n (layer.Eq s t) d e = absurd (false_true (sym e))
  open_by l i b n (layer.Pred r ss ts) d e = absurd (false_true (sym e))
  open_by l i b n (layer.Not a) d e = absurd (false_true (sym e))
  open_by l i b n (layer.And a c) d e = absurd (false_true (sym e))
  open_by l i b n (layer.Or a c) d e = absurd (false_true (sym e))
  open_by l i b n (layer.Xor a c) d e = absurd (false_true (sym e))
  open_by l i b n (layer.Iff a c) d e = absurd (false_true (sym e))

  open_among : (ls : List Lit) → ((l : Lit) → Contains ls l → Contains st.literals l) → list_all is_closed ls ≡ false → IsOpen p g st
  open_among [] f e = absurd (false_true (sym e))
  open_among (l ∷ ls) f e = first (is_closed l) refl (open_among ls (λ m i. f m (contains_later l ls m i))) e
    where
      first : (b : Bool) → is_closed l ≡ b → (list_all is_closed ls ≡ false → IsOpen p g st) → b && list_all is_closed ls ≡ false → IsOpen p g st
      first true q later h = later h
      first false q later h = open_by l (f l (contains_here l ls)) l.positive refl (out-Formula l.formula) refl q

  pub open_literal : list_all is_closed st.literals ≡ false → IsOpen p g st
  open_literal e = open_among st.literals (λ l i. i) e
