-- The terms of each formula of a generation are known at it.
use Rattle.std.specs.Prelude.{ℕ, suc, ◌≤◌, List}
use Rattle.std.proofs.Common.{sym, subst, arith, inl, inr}
use Rattle.ae_core.specs.declared.formulas.Formula.{Formula}
use Rattle.ae_core.specs.declared.problems.Problem.{Problem}
use Rattle.ae_rules.specs.Clauses.{yes_of, no_of}
use Rattle.ae_owed.specs.Instances.{Instance, IsAged}
use Rattle.ae_owed.specs.Instances.IsAged.{of_hypothesis, of_goal, of_instance, of_opened, of_part}
use Rattle.ae_store.specs.Stores.{Stored}
use Rattle.ae_ages.specs.Interned.{IsHad}
use Rattle.ae_ages.specs.Laws.{AreAllHad, HadOnesCover}
use Rattle.ae_ages.specs.declared.entries.Aged.{Aged}
use Rattle.ae_ages.proofs.Having.{young_later, age_later}
use Rattle.ae_ages.proofs.Parts.{outside_parts, quantified_parts, own_part}

had_later : (s : Stored) (es : List Aged) (m n : ℕ) (f : Formula) → m ≤ n → IsHad s es m f → IsHad s es n f
had_later s es m n f le h = record { terms = λ t c. young_later s m n t le (h.terms t c); formulas = λ k c. age_later es m n k le (h.formulas k c) }

module _ (p : Problem) (g : ℕ) (opened : List (Formula × ℕ)) (instances : List Instance) (s : Stored) (es : List Aged) (all : AreAllHad p g opened instances s es) (n : ℕ) where
  had : (f : Formula) → IsAged p g opened instances n f → IsHad s es n f
  had _ (of_hypothesis k f e) = had_later s es 0 n (yes_of f).formula (omega arith) (all.hypotheses k f e)
  had _ (of_goal f e) = had_later s es 0 n (no_of f).formula (omega arith) (all.goal f e)
  had _ (of_instance i l a lt c) = had_later s es (suc i.number) n l.formula (omega (arith, lt)) (all.instance_ones i l a c)
  had _ (of_opened f m c l a o e i) =
      let h = had f a in
      elim (all.bodies f m n c l o (h.formulas f (own_part f m c e)) e i) as (λ _. IsHad s es n l.formula) [ inl q ↦ subst (IsHad s es n) (sym q) h | inr b ↦ b ]
  had _ (of_part f k a c) = let h = had f a in record { terms = λ t i. h.terms t (outside_parts f k c t i); formulas = λ q i. h.formulas q (quantified_parts f k c q i) }

pub had_ones_cover : HadOnesCover
had_ones_cover p g bound opened instances s es all n f t lt a c = (had p g opened instances s es all n f a).terms t c
