-- Formulas without quantifier and inequality, and the goal's block: what they aren't.
use Rattle.std.specs.Prelude.{ℕ, Bool, ◌≡◌, Some}
use Rattle.std.proofs.Common.{sym, ap, ◌∙◌}
use Rattle.std.proofs.lemmas.Option.{same_Some}
use Rattle.ae_base.proofs.Options.{never_some}
use Rattle.ae_core.specs.declared.terms.Term.{Term}
use Rattle.ae_core.specs.declared.formulas.Formula.{Formula, All, out-Formula}
use Rattle.ae_core.specs.declared.formulas.Formula.TheVariants.{outs-All}
use Rattle.ae_core.specs.declared.formulas.Quant.{Quant}
use Rattle.ae_core.specs.declared.problems.Problem.{Problem}
use Rattle.ae_rules.specs.Derivations.{goal_body}
use Rattle.ae_journal.specs.States.{inequality_of, quant_of}
use Rattle.ae_reach.proofs.Simple.{simple_no_order, simple_no_quant}
use Rattle.ae_reach.proofs.Blocks.{block_no_order}
use Rattle.ae_open_states.specs.Finished.{IsGroundOrGoal, ground, the_goal}

module _ (p : Problem) (g : ℕ) where
  -- none of them is an inequality
  pub no_order : (f : Formula) → IsGroundOrGoal p g f → (b : Bool) (x : Term × Term × Bool) → inequality_of b (out-Formula f) ≡ Some x → ⊥
  no_order f (ground e) b x h = simple_no_order f e b x h
  no_order f (the_goal r e) b x h = never_some x (sym (block_no_order b r) ∙ ap (inequality_of b) (sym (outs-All r)) ∙ h)

  -- one that is quantified is the goal
  pub quantified : (f : Formula) → IsGroundOrGoal p g f → (q : Quant) → quant_of (out-Formula f) ≡ Some q → (f ≡ All q) × (goal_body p g ≡ Some (All q))
  quantified f (ground e) q h = absurd (simple_no_quant f e q h)
  quantified f (the_goal r e) q h =
      let same : r ≡ q = same_Some r q (ap quant_of (sym (outs-All r)) ∙ h) in
      (ap All same, e ∙ ap (λ (x : Quant). Some (All x)) same)
