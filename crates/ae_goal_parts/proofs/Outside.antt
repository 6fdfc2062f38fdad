-- Goals of the ground fragment are in reach of the search for ground proofs, so of other goals an answer has no more to say.
use Rattle.std.specs.Prelude.{ℕ, [], ◌≡◌, slice_get, Option, Some, None}
use Rattle.std.proofs.Common.{sym, ap, ◌∙◌, subst, inl, inr}
use Rattle.std.proofs.lemmas.Option.{same_Some}
use Rattle.ae_base.proofs.AllOf.{all_at}
use Rattle.ae_base.proofs.Options.{bind_some, never_some}
use Rattle.ae_core.specs.Constants.{formula_constants}
use Rattle.ae_core.specs.Signatures.{IsLawfulItem, IsLawfulProblem}
use Rattle.ae_core.specs.declared.formulas.Formula.{Formula}
use Rattle.ae_core.specs.declared.problems.Item.{Item}
use Rattle.ae_core.specs.declared.problems.Item.TheVariants.{Axiom, Goal}
use Rattle.ae_core.specs.declared.problems.Problem.{Problem}
use Rattle.ae_journal.specs.Answers.{IsAnswer}
use Rattle.ae_journal.specs.Ground.{IsGround, IsGroundGoal}
use Rattle.ae_journal.specs.declared.answers.Answer.{Answer}
use Rattle.ae_legal_stories.proofs.Items.{hypothesis_ok, goal_ok}
use Rattle.ae_reach.proofs.Simple.{simple_put}
use Rattle.ae_reach.specs.Reach.{IsClosedFormula, IsGoalInReach, IsInReach, plain, block}
use Rattle.ae_reach_checks.proofs.ReachedGoals.{hypothesis_by}
use Rattle.ae_rules.specs.Derivations.{goal_body}
use Rattle.ae_rules.specs.Instances.{hypothesis, count_from}
use Rattle.ae_search.specs.Promises.{IsRightAnswer}
use Rattle.ae_search_options.specs.declared.limits.Limits.{Limits}

module _ (p : Problem) (g : ℕ) (lawful : IsLawfulProblem p) where
  hypothesis_closed : (k : ℕ) (f : Formula) → hypothesis p g k [] ≡ Some f → IsClosedFormula p.signature f
  hypothesis_closed k f e =
      let y = hypothesis_by p g k f e in
      (hypothesis_ok p lawful g k f e, (all_at (IsLawfulItem p.signature) p.items k (Axiom y.name y.vars f) lawful.items y.at).2)

  goal_closed : (f : Formula) → goal_body p g ≡ Some f → IsClosedFormula p.signature f
  goal_closed f e =
      let b = bind_some (slice_get p.items g) (λ (i : Item). elim i as (λ _. Option Formula) [ Axiom n v h ↦ None | Goal n v h ↦ Some h ]) f e in
      (goal_ok p lawful g f e, by_item b.0 (all_at (IsLawfulItem p.signature) p.items g b.0 lawful.items b.1) b.2)
    where
      by_item : (i : Item) → IsLawfulItem p.signature i → elim i as (λ _. Option Formula) [ Axiom n v h ↦ None | Goal n v h ↦ Some h ] ≡ Some f → formula_constants f ≡ []
      by_item (Axiom n v h) l w = never_some f w
      by_item (Goal n v h) l w = ap formula_constants (sym (same_Some h f w)) ∙ l.2

  goal_reached : (f : Formula) → IsGroundGoal p.signature f → IsGoalInReach p.signature f
  goal_reached f (inl i) = plain (record { simple = i.simple })
  goal_reached f (inr (q, e, b)) =
      subst (IsGoalInReach p.signature) (sym e) (block q (record { simple = simple_put (count_from 0 q.sorts) q.body 0 ∙ (b.body).simple }))

  ground_reached : IsGround p g → IsInReach p g
  ground_reached ground = record {
    not_varied = ground.not_varied;
    hypotheses = λ k f e. record { simple = (ground.hypotheses k f e).simple };
    closed = hypothesis_closed;
    goal = ground.goal;
    is = ground.is;
    ground = goal_reached ground.goal ground.ground;
    goal_closed = goal_closed ground.goal ground.is;
  }

  pub outside_right : ¬ (IsInReach p g) → (limits : Limits) (a : Answer) → IsAnswer p g limits.steps limits.generations a → IsRightAnswer p g limits a
  outside_right out limits a h = record {
    answer = h;
    ground = λ ground. absurd (out (ground_reached ground));
    within = λ ground c n e ts k. absurd (out (ground_reached ground));
  }
