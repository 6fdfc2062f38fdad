-- The oldest equation goes.
use Rattle.std.specs.Prelude.{ℕ, ◌<◌, List, [], ◌∷◌, ◌≡◌, map, drop, length, Option, Some, None}
use Rattle.std.specs.List.{AllByRecursion, Contains}
use Rattle.std.proofs.Common.{refl, sym, ap, ◌∙◌, subst, arith}
use Rattle.std.proofs.lemmas.Option.{none-some, same_Some}
use Rattle.ae_core.specs.declared.problems.Signature.{Signature}
use Rattle.ae_core.specs.declared.terms.Term.{Term}
use Rattle.ae_equation_turns.specs.Said.{IsWaitingSaid, IsHeld}
use Rattle.ae_equations.specs.Held.{Contents as Equations}
use Rattle.ae_equations.specs.Paired.{partners}
use Rattle.ae_equations.specs.Queued.{waiting}
use Rattle.ae_equations.specs.declared.pairs.Pairs.{Pairs}
use Rattle.ae_equations.specs.declared.queue.Waiting.{Waiting}
use Rattle.ae_journal.specs.declared.lines.Line.{Line}
use Rattle.ae_journal.proofs.Splits.{contains_here, contains_later}
use Rattle.ae_journal.specs.declared.systems.RuleEntry.{RuleEntry}
use Rattle.ae_just.specs.declared.steps.Step.{Step}
use Rattle.ae_monoid.specs.Rules.{Contents as Rules, rule_at}
use Rattle.ae_pmap.specs.Walk.{first_of}
use Rattle.ae_rule_lines.specs.InStep.{AreRulesInStep, Waiting as Equation}
use Rattle.ae_rule_lines.proofs.NewSides.{forgetting_keeps}
use Rattle.ae_rule_steps.specs.Said.{AreSaid}
use Rattle.ae_sweeps.specs.Given.{entries_of}
use Rattle.ae_state.specs.declared.holding.Holding.{Holding}
use Rattle.ae_state.specs.Names.{terms_now, rules_now}
use Rattle.ae_state.specs.Right.{IsReason, of_value, of_rule, of_equation, IsRight}
use Rattle.ae_state.specs.Stepping.{equation, equations_now, paired_now, IsInStep}
use Rattle.ae_turns.proofs.DroppedRules.{with_equations, right_with}

-- ---- lists
pub first_contained : {A : Type 0} (xs : List A) (x : A) → first_of xs ≡ Some x → Contains xs x
first_contained [] x e = absurd (none-some x e)
first_contained (y ∷ ys) x e = subst (Contains (y ∷ ys)) (same_Some y x e) (contains_here y ys)

pub none_first : {A : Type 0} (xs : List A) → first_of xs ≡ None → xs ≡ []
none_first [] e = refl
none_first (x ∷ xs) e = absurd (none-some x (sym e))

pub some_first : {A : Type 0} (xs : List A) (x : A) → first_of xs ≡ Some x → xs ≡ [] → ⊥
some_first [] x e z = none-some x e
some_first (y ∷ ys) x e z = cc z

pub fewer : {A : Type 0} (xs : List A) (x : A) → Contains (drop 1 xs) x → Contains xs x
fewer [] x c = c
fewer (y ∷ ys) x c = contains_later y ys x c

pub all_fewer : {A : Type 0} (P : A → Type 0) (xs : List A) → AllByRecursion P xs → AllByRecursion P (drop 1 xs)
all_fewer P [] all = all
all_fewer P (x ∷ xs) all = all.1

pub mapped_fewer : {A B : Type 0} (f : A → B) (xs : List A) → map f (drop 1 xs) ≡ drop 1 (map f xs)
mapped_fewer f [] = refl
mapped_fewer f (x ∷ xs) = refl

pub shorter : {A : Type 0} (xs ys : List A) → ys ≡ drop 1 xs → (xs ≡ [] → ⊥) → length ys < length xs
shorter [] ys e some = absurd (some refl)
shorter (x ∷ xs) ys e some = omega (arith, ap length e)

-- ---- what is held
module _ (o : Holding) (e : Equations) (queue : waiting e.queue ≡ drop 1 (waiting o.equations.queue)) where
  pub waited : (w : Waiting) → Contains (waiting e.queue) w → Contains (waiting o.equations.queue) w
  waited w c = fewer (waiting o.equations.queue) w (subst (λ (ws : List Waiting). Contains ws w) queue c)

  pub waiting_said : (sig : Signature) (ts : List Term) (steps : List Step) → AllByRecursion (IsWaitingSaid sig ts steps) (waiting o.equations.queue) → AllByRecursion (IsWaitingSaid sig ts steps) (waiting e.queue)
  waiting_said sig ts steps all =
      subst (λ (ws : List Waiting). AllByRecursion (IsWaitingSaid sig ts steps) ws) (sym queue) (all_fewer (IsWaitingSaid sig ts steps) (waiting o.equations.queue) all)

  -- the lines of other rules go on being in step with fewer equations
  pub fewer_in_step : (ls : List Line) (rules : ℕ → Option RuleEntry) (paired : ℕ → List ℕ) → AreRulesInStep o.signature (terms_now o) ls rules paired (equations_now o)
      → AreRulesInStep o.signature (terms_now o) ls rules paired (map equation (waiting e.queue))
  fewer_in_step ls rules paired h =
      forgetting_keeps o.signature (terms_now o) ls rules paired (equations_now o) (map equation (waiting e.queue))
      (λ v c. fewer (equations_now o) v (subst (λ (vs : List Equation). Contains vs v) (ap (map equation) queue ∙ mapped_fewer equation (waiting o.equations.queue)) c)) h

  module _ (rules : e.rules ≡ o.equations.rules) (pairs : e.pairs ≡ o.equations.pairs) where
    held_fewer : IsHeld o.signature (terms_now o) o.justs o.equations → IsHeld o.signature (terms_now o) o.justs e
    held_fewer h =
        record {
          rules = subst (λ (r : Rules). AreSaid o.signature (terms_now o) o.justs (λ n. rule_at r n)) (sym rules) h.rules;
          waiting = waiting_said o.signature (terms_now o) o.justs h.waiting;
        }

    reason_fewer : (id : ℕ) → IsReason (with_equations o e) id → IsReason o id
    reason_fewer id (of_value s) = of_value s
    reason_fewer id (of_rule n rule at j) = of_rule n rule (ap (λ (r : Rules). rule_at r n) (sym rules) ∙ at) j
    reason_fewer id (of_equation w c j) = of_equation w (waited w c) j

    pub right_fewer : IsRight o → IsRight (with_equations o e)
    right_fewer right = right_with o e right (held_fewer right.ruled) reason_fewer

    pub step_fewer : (ls : List Line) → IsInStep o ls → IsInStep (with_equations o e) ls
    step_fewer ls h =
        record {
          valued = h.valued;
          solved = h.solved;
          ruled =
              subst (λ (z : Rules × Pairs). AreRulesInStep o.signature (terms_now o) ls (entries_of z.0) (λ n. partners z.1 n) (map equation (waiting e.queue))) (λ i. (sym rules i, sym pairs i))
              (fewer_in_step ls (rules_now o) (paired_now o) h.ruled);
        }
