-- Equations that steps state, behind those that wait.
use Rattle.std.specs.Prelude.{ℕ, ◌⊎◌, List, [], ◌∷◌, ◌++◌, ◌≡◌, map, Option}
use Rattle.std.specs.List.{AllByRecursion, Contains}
use Rattle.std.proofs.Common.{refl, sym, ap, ◌∙◌, subst, inl, inr}
use Rattle.std.proofs.lemmas.List.{map-append}
use Rattle.std.proofs.lemmas.List.Elements.{Contains-append_cases}
use Rattle.ae_base.proofs.AllOf.{all_append}
use Rattle.ae_conflicts.specs.Saying.{RestsOnAssumed}
use Rattle.ae_equation_turns.specs.Said.{IsWaitingSaid, IsHeld}
use Rattle.ae_equations.specs.Held.{Contents as Equations}
use Rattle.ae_equations.specs.Paired.{partners}
use Rattle.ae_equations.specs.Queued.{waiting}
use Rattle.ae_equations.specs.Versions.{Lasts as EquationsLast}
use Rattle.ae_equations.specs.declared.queue.Waiting.{Waiting}
use Rattle.ae_journal.specs.Noted.{Noted}
use Rattle.ae_journal.specs.Standing.{Setting}
use Rattle.ae_journal.specs.declared.lines.Line.{Line}
use Rattle.ae_journal.specs.declared.systems.RuleEntry.{RuleEntry}
use Rattle.ae_journal.proofs.Splits.{all_contained, contains_one}
use Rattle.ae_monoid.specs.Rules.{Contents as Rules, rule_at}
use Rattle.ae_pmap.specs.Forest.{present}
use Rattle.ae_rule_lines.specs.InStep.{AreRulesInStep, HasSource, Waiting as Equation}
use Rattle.ae_store.specs.Stores.{Stored}
use Rattle.ae_sweeps.specs.Given.{entries_of}
use Rattle.ae_theory.specs.Names.{IsNamedBy}
use Rattle.ae_theory.specs.Noting.{HasNoted, NotesLegal}
use Rattle.ae_state.specs.declared.holding.Holding.{Holding}
use Rattle.ae_state.specs.Names.{all_terms, terms_now}
use Rattle.ae_state.specs.Right.{IsReason, of_value, of_rule, of_equation, IsRight}
use Rattle.ae_state.specs.Fitting.{FitsStore}
use Rattle.ae_state.specs.Stepping.{equation, equations_now, paired_now, IsInStep}
use Rattle.ae_turns.specs.Leading.{Leads}
use Rattle.ae_turns.specs.Representing.{IsTaken, AreRepresentatives}
use Rattle.ae_turns.proofs.DroppedRules.{with_equations, marks_with, conflict_with}

-- the step of an equation rests on assumed literals alone
abbrev pub IsGrounded : Holding → Waiting → Type 0
IsGrounded o w = RestsOnAssumed (all_terms o) o.justs (present o.assumed) w.step

-- ---- other equations, all grounded
pub right_grounded : (o : Holding) (e : Equations) → IsRight o → IsHeld o.signature (terms_now o) o.justs e
    → ((id : ℕ) → IsReason (with_equations o e) id → RestsOnAssumed (all_terms o) o.justs (present o.assumed) id) → IsRight (with_equations o e)
right_grounded o e right held grounded =
    record {
      entries = right.entries;
      within = right.within;
      closed = right.closed;
      steps = right.steps;
      valued = right.valued;
      said = right.said;
      ruled = held;
      grounded = grounded;
      numbered = right.numbered;
      read = λ place a at. (let r = right.read place a at in record { what = r.what; at = r.at; named = λ s t. r.named s (record { signature = t.signature; keeps = t.keeps }); says = λ s store t. r.says s store (record { signature = t.signature; keeps = t.keeps }) });
    }

-- ---- the same rules, and more equations that wait
module _ (o : Holding) (e : Equations) (more : List Waiting) (rules : e.rules ≡ o.equations.rules) (queue : waiting e.queue ≡ waiting o.equations.queue ++ more)
    (said : AllByRecursion (IsWaitingSaid o.signature (terms_now o) o.justs) more) (grounded : AllByRecursion (IsGrounded o) more) where
  held_pushed : IsHeld o.signature (terms_now o) o.justs o.equations → IsHeld o.signature (terms_now o) o.justs e
  held_pushed held =
      record {
        rules = record { each = λ n rule at. (held.rules).each n rule (ap (λ (r : Rules). rule_at r n) (sym rules) ∙ at) };
        waiting =
            subst (λ (ws : List Waiting). AllByRecursion (IsWaitingSaid o.signature (terms_now o) o.justs) ws) (sym queue)
            (all_append (IsWaitingSaid o.signature (terms_now o) o.justs) (waiting o.equations.queue) more held.waiting said);
      }

  by_place : IsRight o → (id : ℕ) (w : Waiting) → w.step ≡ id → Contains (waiting o.equations.queue) w ⊎ Contains more w → RestsOnAssumed (all_terms o) o.justs (present o.assumed) id
  by_place right id w j (inl c) = right.grounded id (of_equation w c j)
  by_place right id w j (inr c) = subst (RestsOnAssumed (all_terms o) o.justs (present o.assumed)) j (all_contained (IsGrounded o) more w grounded c)

  reason_grounded : IsRight o → (id : ℕ) → IsReason (with_equations o e) id → RestsOnAssumed (all_terms o) o.justs (present o.assumed) id
  reason_grounded right id (of_value s) = right.grounded id (of_value s)
  reason_grounded right id (of_rule n rule at j) = right.grounded id (of_rule n rule (ap (λ (r : Rules). rule_at r n) (sym rules) ∙ at) j)
  reason_grounded right id (of_equation w c j) =
      by_place right id w j (Contains-append_cases (waiting o.equations.queue) more w (subst (λ (ws : List Waiting). Contains ws w) queue c))

  pub right_pushed : IsRight o → IsRight (with_equations o e)
  right_pushed right = right_grounded o e right (held_pushed right.ruled) (reason_grounded right)

  pub equations_pushed : ◌≡◌ {A = List Equation} (equations_now (with_equations o e)) (equations_now o ++ map equation more)
  equations_pushed = ap (map equation) queue ∙ map-append equation (waiting o.equations.queue) more

  module _ (s : Stored) where
    pub fits_pushed : FitsStore o s → FitsStore (with_equations o e) s
    fits_pushed fits = record { right = right_pushed fits.right; terms = record { signature = (fits.terms).signature; keeps = (fits.terms).keeps } }

    pub taken_pushed : IsTaken o s → IsTaken (with_equations o e) s
    taken_pushed t = record { store = t.store; fits = fits_pushed t.fits; all = t.all }

    pub leads_pushed : FitsStore o s → EquationsLast o.equations e → (j k : Noted) → HasNoted j k → ((x : Setting) (bound : ℕ) → IsNamedBy x s j.lines → NotesLegal x bound j.lines k.lines)
        → Leads s o j (with_equations o e) k
    leads_pushed fits lasts j k noted legal =
        record {
          fits = fits_pushed fits;
          assumed = refl;
          noted = noted;
          legal = λ x bound named may. legal x bound named;
          marks = marks_with o e lasts;
          conflicts = conflict_with o e;
        }

-- the representatives are those of the same values
pub reps_with : (o : Holding) (e : Equations) (reps : List ℕ) → AreRepresentatives o reps → AreRepresentatives (with_equations o e) reps
reps_with o e reps r = record { one_each = r.one_each; least = r.least }

-- ---- an equation that has a source is in step
module _ (o : Holding) (e : Equations) (w : Waiting) (rules : e.rules ≡ o.equations.rules) (pairs : e.pairs ≡ o.equations.pairs) (queue : waiting e.queue ≡ waiting o.equations.queue ++ w ∷ []) (js : List Line) where
  source_here : HasSource o.signature (terms_now o) js (equation w) → (v : Equation) → IsInStep o js → Contains (equations_now o) v ⊎ Contains (equation w ∷ []) v → HasSource o.signature (terms_now o) js v
  source_here s v step (inl c) = (step.ruled).sources v c
  source_here s v step (inr c) = subst (HasSource o.signature (terms_now o) js) (contains_one (equation w) v c) s

  ruled_more : HasSource o.signature (terms_now o) js (equation w) → (step : IsInStep o js) → AreRulesInStep o.signature (terms_now o) js (entries_of o.equations.rules) (paired_now o) (equations_now o ++ equation w ∷ [])
  ruled_more s step =
      record {
        standing = (step.ruled).standing;
        all = (step.ruled).all;
        distinct = (step.ruled).distinct;
        pairs = (step.ruled).pairs;
        sources = λ v c. source_here s v step (Contains-append_cases (equations_now o) (equation w ∷ []) v c);
      }

  pub step_pushed : HasSource o.signature (terms_now o) js (equation w) → IsInStep o js → IsInStep (with_equations o e) js
  step_pushed s step =
      record {
        valued = step.valued;
        solved = step.solved;
        ruled =
            subst (λ (z : (ℕ → Option RuleEntry) × (ℕ → List ℕ) × List Equation). AreRulesInStep o.signature (terms_now o) js z.0 z.1 z.2)
            (sym (λ i. ((λ n. entries_of (rules i) n), (λ n. partners (pairs i) n), (ap (map equation) queue ∙ map-append equation (waiting o.equations.queue) (w ∷ [])) i))) (ruled_more s step);
      }
