-- Rules with other right sides: still smaller than their left sides, and stated by steps.
use Rattle.std.specs.Prelude.{ℕ, ◌≡◌, List, ◌++◌, map, Option, Some}
use Rattle.std.specs.List.{AllByRecursion}
use Rattle.std.proofs.Common.{sym, ap, ◌∙◌, subst}
use Rattle.std.proofs.lemmas.Option.{same_Some}
use native.Mathlib.Decide.{ℕ_discrete}
use Rattle.ae_base.proofs.AllOf.{all_weaker}
use Rattle.ae_core.specs.declared.terms.Term.{Term}
use Rattle.ae_core.specs.declared.problems.Signature.{Signature}
use Rattle.ae_multiset.specs.Multisets.{IsSame, IsLess, rising}
use Rattle.ae_multiset.specs.Rewriting.{ReducesTo}
use Rattle.ae_multiset.proofs.Rising.{rising_rises}
use Rattle.ae_store.specs.Growing.{IsFront}
use Rattle.ae_just.specs.declared.steps.Step.{Step}
use Rattle.ae_state_steps.specs.ManySteps.{StatesMany}
use Rattle.ae_multiset_steps.specs.Equating.{AreNamesOf}
use Rattle.ae_multiset_steps.proofs.Fronts.{many_kept}
use Rattle.ae_monoid.specs.declared.rules.Kept.{Kept}
use Rattle.ae_monoid.specs.Rules.{rule_at, AreRules, IsRuleOf, IsWellKept}
use Rattle.ae_monoid.specs.Changes.{with_right}
use Rattle.ae_rule_steps.specs.Said.{IsSaid, AreSaid}
use Rattle.ae_rule_steps.proofs.Reaching.{said_kept}
use Rattle.ae_sweeps.specs.Given.{rep_in}
use Rattle.ae_equations.specs.declared.queue.Queue.{Queue}
use Rattle.ae_equations.specs.declared.queue.Waiting.{Waiting}
use Rattle.ae_equations.specs.Held.{Contents}
use Rattle.ae_equations.specs.Queued.{waiting}
use Rattle.ae_equation_turns.specs.Said.{IsWaitingSaid, IsHeld}
use Rattle.ae_equation_turns.specs.Turned.{AreLeast, IsComposed}
use Rattle.ae_equation_turns.proofs.OrderLaws.{less_up_to, up_to_renamed, up_to_reduced, same_rising, rising_same, up_to_as}

-- ---- smaller than the left side
pub renamed_falls : (reps : List ℕ) (rule : Kept) (now : List ℕ) → AreLeast reps → IsWellKept rule → now ≡ rising (map (rep_in reps) rule.entry.right) → IsLess now rule.entry.left
renamed_falls reps rule now least well e =
    let m = map (rep_in reps) rule.entry.right in
    less_up_to now rule.entry.right rule.entry.left (up_to_as now m rule.entry.right (subst (λ (zs : List ℕ). IsSame zs m) (sym e) (same_rising m)) (up_to_renamed (rep_in reps) least.below rule.entry.right)) well.falls

pub reduced_falls : (kept : ℕ → Option Kept) (next : ℕ) (rule : Kept) (now : List ℕ) → AreRules kept next → IsWellKept rule → ReducesTo (IsRuleOf kept rule.entry.symbol) rule.entry.right now → IsLess now rule.entry.left
reduced_falls kept next rule now rules well f = less_up_to now rule.entry.right rule.entry.left (up_to_reduced kept next rule.entry.symbol rules f) well.falls

-- of the rule that stands there
pub falls_there : (kept : ℕ → Option Kept) (number : ℕ) (rule : Kept) (now : List ℕ) → kept number ≡ Some rule → IsLess now rule.entry.left → (other : Kept) → kept number ≡ Some other → IsLess now other.entry.left
falls_there kept number rule now there l other e = subst (λ (k : Kept). IsLess now k.entry.left) (same_Some rule other (sym there ∙ e)) l

pub falls_as : (rule : Kept) (xs names : List ℕ) → xs ≡ names → IsLess names rule.entry.left → IsLess xs rule.entry.left
falls_as rule xs names e l = subst (λ (zs : List ℕ). IsLess zs rule.entry.left) (sym e) l

-- ---- steps that come behind
waiting_kept : (sig : Signature) (ts : List Term) (old new : List Step) → IsFront old new → (w : Waiting) → IsWaitingSaid sig ts old w → IsWaitingSaid sig ts new w
waiting_kept sig ts old new f w s = record { names = s.names; left_some = s.left_some; right_some = s.right_some; states = many_kept old new f w.step w.symbol w.left w.right s.states }

pub all_said_kept : (sig : Signature) (ts : List Term) (old new : List Step) → IsFront old new → (kept : ℕ → Option Kept) → AreSaid sig ts old kept → AreSaid sig ts new kept
all_said_kept sig ts old new f kept s = record { each = λ n rule e. said_kept sig ts old new f rule (s.each n rule e) }

module _ (sig : Signature) (ts : List Term) (old new : List Step) (f : IsFront old new) (c d : Contents) (h : IsHeld sig ts old c) (queue : d.queue ≡ c.queue) where
  waiting_then : AllByRecursion (IsWaitingSaid sig ts new) (waiting d.queue)
  waiting_then =
      subst (λ (q : Queue). AllByRecursion (IsWaitingSaid sig ts new) (waiting q)) (sym queue)
      (all_weaker (IsWaitingSaid sig ts old) (IsWaitingSaid sig ts new) (waiting_kept sig ts old new f) (waiting c.queue) h.waiting)

  -- the same rules
  pub held_same : ((n : ℕ) → rule_at d.rules n ≡ rule_at c.rules n) → IsHeld sig ts new d
  held_same e = record { rules = record { each = λ n rule there. said_kept sig ts old new f rule (h.rules.each n rule (sym (e n) ∙ there)) }; waiting = waiting_then }

  -- one rule with another right side
  module _ (number : ℕ) (rule : Kept) (right : List ℕ) (just : ℕ) (composed : IsComposed (λ n. rule_at c.rules n) (λ n. rule_at d.rules n) number rule right just)
      (names : AreNamesOf sig ts rule.entry.symbol (rule.entry.left ++ rising right))
      (states : StatesMany new just rule.entry.symbol rule.entry.left (rising right)) where
    pub held_composed : IsHeld sig ts new d
    held_composed = record { rules = record { each = λ n other e. each n other e (ℕ_discrete n number) }; waiting = waiting_then }
      where
        each : (n : ℕ) (other : Kept) → rule_at d.rules n ≡ Some other → Dec (n ≡ number) → IsSaid sig ts new other
        each n other e (yes s) =
            let z : with_right rule right just ≡ other = same_Some (with_right rule right just) other (sym composed.is ∙ ap (λ (m : ℕ). rule_at d.rules m) (sym s) ∙ e) in
            subst (λ (k : Kept). IsSaid sig ts new k) z (record { names = names; states = states })
        each n other e (no k) = said_kept sig ts old new f other (h.rules.each n other (sym (composed.others n k) ∙ e))

-- ---- right sides as they are kept
pub right_renamed_as : (reps : List ℕ) (rule : Kept) (just : ℕ) (now names : List ℕ) → now ≡ names → names ≡ rising (map (rep_in reps) rule.entry.right)
    → with_right rule now just ≡ with_right rule (map (rep_in reps) rule.entry.right) just
right_renamed_as reps rule just now names e f =
    let m = map (rep_in reps) rule.entry.right in
    let z : rising now ≡ rising m = ap rising (e ∙ f) ∙ rising_same (rising m) (rising_rises m) in
    λ i. record { entry = record { symbol = rule.entry.symbol; left = rule.entry.left; right = z i }; just = just }

pub right_as : (rule : Kept) (just : ℕ) (now names : List ℕ) → now ≡ names → with_right rule now just ≡ with_right rule names just
right_as rule just now names e = ap (λ (zs : List ℕ). with_right rule zs just) e
