-- Generations by the instances that were noted, against those of the journal.
use Rattle.std.specs.Prelude.{ℕ, zero, suc, ◌<◌, ◌≤◌, List, [], ◌∷◌, ◌⊎◌}
use Rattle.std.specs.List.{Contains}
use Rattle.std.proofs.Common.{ap, ◌∙◌, arith, inl, inr}
use Rattle.ae_core.specs.declared.formulas.Formula.{Formula, out-Formula}
use Rattle.ae_core.specs.declared.formulas.Lit.{Lit}
use Rattle.ae_core.specs.declared.problems.Problem.{Problem}
use Rattle.ae_rules.specs.Clauses.{Clause, yes_of, no_of}
use Rattle.ae_rules.specs.Instances.{fresh_clause}
use Rattle.ae_journal.specs.InstanceLines.{FormulaFrom, IsInstanceBelow, HasGeneration}
use Rattle.ae_journal.specs.InstanceLines.FormulaFrom.{of_clause as from_clause, of_fresh as from_fresh, of_part as from_part}
use Rattle.ae_journal.specs.Standing.{Setting, IsBrought}
use Rattle.ae_journal.specs.Standing.IsBrought.{by_hypothesis, by_goal}
use Rattle.ae_journal.specs.declared.lines.Line.{Line}
use Rattle.ae_journal.proofs.Splits.{contains_here}
use Rattle.ae_owed.specs.Instances.{Instance, brought, IsAged}
use Rattle.ae_owed.specs.Instances.IsAged.{of_hypothesis, of_goal, of_instance, of_opened, of_part}
use Rattle.ae_owed.specs.Laws.{AgedOnesHaveGenerations, AgesRise, GenerationsRiseTo}
use Rattle.ae_owed.specs.Recorded.{IsRecorded, AreOpenedIn}
use Rattle.ae_owed.proofs.Rising.{below_wider, rise_to}

module _ (p : Problem) (g : ℕ) (opened : List (Formula × ℕ)) (instances : List Instance) (m n : ℕ) (le : m ≤ n) where
  risen : (f : Formula) → IsAged p g opened instances m f → IsAged p g opened instances n f
  risen _ (of_hypothesis k f e) = of_hypothesis k f e
  risen _ (of_goal f e) = of_goal f e
  risen _ (of_instance i l a h b) = of_instance i l a (omega (arith, h, le)) b
  risen _ (of_opened f k c l a o e b) = of_opened f k c l (risen f a) o e b
  risen _ (of_part f h a b) = of_part f h (risen f a) b

pub ages_rise : AgesRise
ages_rise p g opened instances m n f le a = risen p g opened instances m n le f a

pub generations_rise_to : GenerationsRiseTo
generations_rise_to x js m n f le a = rise_to x js m n f le a

module _ (x : Setting) (js : List Line) (opened : List (Formula × ℕ)) (instances : List Instance) (recorded : (i : Instance) → Contains instances i → IsRecorded x js i) (own : AreOpenedIn x opened) where
  module _ (begin : Clause → Type 0) (n : ℕ) (first : (c : Clause) → IsBrought x [] c → begin c)
      (later : (i : Instance) (l : Lit) → Contains instances i → i.number < n → Contains (brought x.problem x.goal i) l → FormulaFrom x begin l.formula) where
    from_aged : (f : Formula) → IsAged x.problem x.goal opened instances n f → FormulaFrom x begin f
    from_aged _ (of_hypothesis k f e) = from_clause (yes_of f ∷ []) (yes_of f) (first (yes_of f ∷ []) (by_hypothesis k f e)) (contains_here (yes_of f) [])
    from_aged _ (of_goal f e) = from_clause (no_of f ∷ []) (no_of f) (first (no_of f ∷ []) (by_goal f e)) (contains_here (no_of f) [])
    from_aged _ (of_instance i l a h b) = later i l a h b
    from_aged _ (of_opened f k c l a o e b) = from_fresh f c l (from_aged f a) (ap (λ (m : ℕ). fresh_clause f m (out-Formula f)) (own f k o) ∙ e) b
    from_aged _ (of_part f h a b) = from_part f h (from_aged f a) b

  aged : (n : ℕ) (f : Formula) → IsAged x.problem x.goal opened instances n f → HasGeneration x js n f
  aged zero = from_aged (IsBrought x []) zero (λ c b. b) (λ i l a h b. absurd (omega (arith, h)))
  aged (suc n) =
      from_aged (λ c. IsBrought x [] c ⊎ IsInstanceBelow x (HasGeneration x js n) js c) (suc n) (λ c b. inl b)
      (λ i l a h b.
      let r = recorded i a l b in
      let w : IsInstanceBelow x (HasGeneration x js n) js r.line_of.clause =
      below_wider x (HasGeneration x js i.number) (HasGeneration x js n) (λ f. rise_to x js i.number n f (omega (arith, h))) js r.line_of.clause r.below in
      from_clause r.line_of.clause l (inr w) r.line_of.has)

pub aged_ones_have_generations : AgedOnesHaveGenerations
aged_ones_have_generations x js opened instances recorded own n f a = aged x js opened instances recorded own n f a
