-- What is held after going back to a mark.
use Rattle.std.specs.Prelude.{ℕ, true, ◌≤◌, ◌++◌, List, [], ◌≡◌, length, map, slice_get, take, Option, Some}
use Rattle.std.proofs.Common.{sym, ap, ◌∙◌, subst, arith}
use Rattle.std.proofs.lemmas.List.{length-append}
use Rattle.ae_base.proofs.ListFacts.{get_append}
use Rattle.std.specs.List.{Contains}
use Rattle.ae_core.specs.Sorts.{formula_ok}
use Rattle.ae_core.specs.declared.formulas.Lit.{Lit}
use Rattle.ae_core.specs.declared.terms.Term.{Term}
use Rattle.ae_core.specs.declared.problems.Signature.{Signature}
use Rattle.ae_num.specs.declared.forms.Value.{Value}
use Rattle.ae_journal.specs.declared.lines.Line.{Line}
use Rattle.ae_journal.specs.declared.systems.RuleEntry.{RuleEntry}
use Rattle.ae_journal.specs.declared.systems.System.{System}
use Rattle.ae_journal.specs.Systems.{IsCompleted}
use Rattle.ae_pmap.specs.Forest.{present}
use Rattle.ae_pmap.specs.Pairs.{found}
use Rattle.ae_store.specs.Growing.{IsFront}
use Rattle.ae_store.specs.Stores.{Stored}
use Rattle.ae_store.specs.Terms.{terms, Keeps}
use Rattle.ae_store.specs.declared.nodes.Shape.{Shape}
use Rattle.ae_just.specs.Steps.{Fits}
use Rattle.ae_just.specs.declared.steps.Step.{Step}
use Rattle.ae_settled.specs.Held.{entries}
use Rattle.ae_settled.specs.Met.{Satisfies}
use Rattle.ae_settled.specs.Valued.{AreValues}
use Rattle.ae_sweeps.specs.Given.{entry_of}
use Rattle.ae_theory.specs.Names.{terms_in}
use Rattle.ae_theory.specs.Noting.{literals}
use Rattle.ae_theory.specs.Tagged.{Tagged}
use Rattle.ae_value_table.specs.Table.{values}
use Rattle.ae_value_table.specs.declared.patterns.Entry.{Entry}
use Rattle.ae_value_fitting.specs.Fitting.{AreSaid}
use Rattle.ae_equation_turns.specs.Said.{IsHeld}
use Rattle.ae_name_lines.specs.Closed.{AreClosed}
use Rattle.ae_name_lines.specs.InStep.{AreLineValues, SolvesBelow}
use Rattle.ae_rule_lines.specs.InStep.{AreRulesInStep, Waiting as Equation}
use Rattle.ae_patterns.specs.Patterns.{AreEntriesOf}
use Rattle.ae_conflicts.specs.declared.assumed.Assumed.{Assumed}
use Rattle.ae_conflicts.specs.Conflicting.{IsConflict}
use Rattle.ae_conflicts.specs.Saying.{tagged, AreKept, RestsOnAssumed}
use Rattle.ae_conflicts.proofs.Kept.{conflict_kept}
use Rattle.ae_state.specs.declared.holding.Holding.{Holding}
use Rattle.ae_state.specs.declared.holding.Mark.{Mark}
use Rattle.ae_state.specs.Names.{all_terms, terms_now, rules_now, system_now, assumed_in}
use Rattle.ae_state.specs.Right.{IsReason, AreNumbered, HasTerms, IsRead, IsRight}
use Rattle.ae_state.specs.Fitting.{FitsStore}
use Rattle.ae_state.specs.Marks.{FitsMark}
use Rattle.ae_state.specs.Stepping.{equation, equations_now, paired_now, IsInStep}
use Rattle.ae_state.specs.Complete.{IsComplete, IsOwnConflict}
use Rattle.ae_state.specs.Inner.Back.{IsBack}
use Rattle.ae_state.proofs.Growing.{front_keeps, keeps_then, take_kept, said_more, held_more, rests_kept}
use Rattle.ae_state.proofs.Reasons.{said_as, held_as, reason_before, reason_within}

-- what a state shows to lines
record Shown : Type 0 where
  pub signature : Signature
  pub names : List Term
  pub values_are : List Value
  pub taken : ℕ
  pub rules : ℕ → Option RuleEntry
  pub paired : ℕ → List ℕ
  pub equations : List Equation

abbrev shown : Holding → Shown
shown o = record {
  signature = o.signature;
  names = terms_now o;
  values_are = values o.values;
  taken = o.values.taken;
  rules = rules_now o;
  paired = paired_now o;
  equations = equations_now o;
}

record StepsBy (x : Shown) (js : List Line) : Type 0 where
  pub valued : AreLineValues x.signature x.names x.values_are js
  pub solved : SolvesBelow x.taken js
  pub ruled : AreRulesInStep x.signature x.names js x.rules x.paired x.equations

to_shown : (o : Holding) (js : List Line) → IsInStep o js → StepsBy (shown o) js
to_shown o js s = record { valued = s.valued; solved = s.solved; ruled = s.ruled }

from_shown : (o : Holding) (js : List Line) → StepsBy (shown o) js → IsInStep o js
from_shown o js s = record { valued = s.valued; solved = s.solved; ruled = s.ruled }

module _ (o new then : Holding) (m : Mark) (h : FitsMark o m then) (b : IsBack o new then) where
  signature_is : new.signature ≡ then.signature
  signature_is = b.signature ∙ h.signature

  keeps_to_old : Keeps (all_terms then) (all_terms o)
  keeps_to_old = front_keeps then.shapes o.shapes h.shapes

  keeps : Keeps (all_terms then) (all_terms new)
  keeps = subst (λ (xs : List Shape). Keeps (all_terms then) (terms xs)) (sym b.shapes) keeps_to_old

  long : then.values.taken ≤ length (all_terms then)
  long = omega (arith, (h.right).within, ((h.right).entries).within)

  pub terms_are : terms_now new ≡ terms_now then
  terms_are = ap (λ k. take k (all_terms new)) (b.values).taken ∙ take_kept then.values.taken (all_terms then) (all_terms new) keeps long

  rules_are : ◌≡◌ {A = ℕ → Option RuleEntry} (rules_now new) (rules_now then)
  rules_are = λ i n. entry_of ((b.equations).rules n i)

  pub system_is : system_now new ≡ system_now then
  system_is = λ i. record { names = terms_are i; values = b.values_are i; rules = entries (rules_are i) ((b.equations).len i) }

  pub assumed_is : assumed_in new ≡ assumed_in then
  assumed_is = ap tagged b.assumed

  justs_front : IsFront then.justs new.justs
  justs_front = ((h.justs).0, b.justs ∙ (h.justs).1)

  steps_fit : Fits then.signature (all_terms then) then.justs
  steps_fit = (h.right).steps

  kept_same : AreKept (present then.assumed) (present new.assumed)
  kept_same = record { each = λ place entry e. ap (λ ps. found ps place) b.assumed ∙ e }

  -- ---- the literals hold, conflicts stand, lines are in step
  pub complete_again : IsComplete then → IsComplete new
  complete_again c =
      record {
        completed = subst (λ (x : Signature × System). IsCompleted x.0 x.1) (sym (λ i. (signature_is i, system_is i))) c.completed;
        satisfied = subst (λ (x : Signature × System × List Tagged). ((l : Lit) → Contains (literals x.2) l → formula_ok x.0 l.formula ≡ true) → Satisfies x.0 x.1 (literals x.2))
            (sym (λ i. (signature_is i, system_is i, assumed_is i))) c.satisfied;
      }

  pub conflict_again : (k : ℕ) → IsOwnConflict then k → IsOwnConflict new k
  conflict_again k c =
      let is : IsConflict then.signature (all_terms new) (then.justs ++ justs_front.0) (present new.assumed) c.conflict =
      conflict_kept (present then.assumed) (present new.assumed) kept_same then.signature (all_terms then) (all_terms new) then.justs justs_front.0 keeps steps_fit c.conflict c.is in
      record {
        conflict = c.conflict;
        at = ap (λ cs. slice_get cs k) (b.conflicts ∙ (h.conflicts).1) ∙ get_append then.conflicts (h.conflicts).0 k c.conflict c.at;
        is = subst (λ (x : Signature × List Step). IsConflict x.0 (all_terms new) x.1 (present new.assumed) c.conflict) (λ i. (sym signature_is i, sym justs_front.1 i)) is;
      }

  shown_is : shown new ≡ shown then
  shown_is = λ i. record {
    signature = signature_is i;
    names = terms_are i;
    values_are = b.values_are i;
    taken = (b.values).taken i;
    rules = rules_are i;
    paired = λ n. (b.equations).pairs n i;
    equations = map equation ((b.equations).waiting i);
  }

  pub step_again : (js : List Line) → IsInStep then js → IsInStep new js
  step_again js s = from_shown new js (subst (λ (x : Shown). StepsBy x js) (sym shown_is) (to_shown then js s))

  -- ---- all is right
  module _ (right : IsRight o) where
    within_again : new.values.taken ≤ length new.values.entries
    within_again =
        let more = (h.values).entries in
        omega (arith, (b.values).taken, (h.right).within, ap length b.entries, ap length more.1, length-append then.values.entries more.0)

    said_again : AreSaid new.signature (terms_now new) new.justs new.values
    said_again =
        subst (λ (x : Signature × List Term × List Step). AreSaid x.0 x.1 x.2 new.values) (λ i. (sym signature_is i, sym terms_are i, sym justs_front.1 i))
        (said_as new.values then.values b.values then.signature (terms_now then) (then.justs ++ justs_front.0)
        (said_more then.signature (terms_now then) then.justs justs_front.0 then.values (h.right).said))

    ruled_again : IsHeld new.signature (terms_now new) new.justs new.equations
    ruled_again =
        subst (λ (x : Signature × List Term × List Step). IsHeld x.0 x.1 x.2 new.equations) (λ i. (sym signature_is i, sym terms_are i, sym justs_front.1 i))
        (held_as new.equations then.equations b.equations then.signature (terms_now then) (then.justs ++ justs_front.0)
        (held_more then.signature (terms_now then) then.justs justs_front.0 then.equations (h.right).ruled))

    grounded_again : (id : ℕ) → IsReason new id → RestsOnAssumed (all_terms new) new.justs (present new.assumed) id
    grounded_again id r =
        let before = reason_before new then b.values b.equations id r in
        subst (λ (steps : List Step). RestsOnAssumed (all_terms new) steps (present new.assumed) id) (sym justs_front.1)
        (rests_kept (present then.assumed) (present new.assumed) kept_same then.signature (all_terms then) (all_terms new) then.justs justs_front.0 keeps steps_fit id
        (reason_within then h.right id before) ((h.right).grounded id before))

    terms_then : (s : Stored) → HasTerms new s → HasTerms then s
    terms_then s t = record { signature = t.signature ∙ signature_is; keeps = keeps_then (all_terms then) (all_terms new) _ keeps t.keeps }

    read_again : (place : ℕ) (a : Assumed) → found (present new.assumed) place ≡ Some a → IsRead new place a
    read_again place a e =
        let r = (h.right).read place a (ap (λ ps. found ps place) (sym b.assumed) ∙ e) in
        record { what = r.what; at = ap (λ ps. found ps place) b.said ∙ r.at; named = λ s t. r.named s (terms_then s t); says = λ s store t. r.says s store (terms_then s t) }

    pub right_again : IsRight new
    right_again =
        record {
          entries = subst (λ (x : Signature × List Shape × List Entry). AreEntriesOf x.0 (terms x.1) x.2) (sym (λ i. (b.signature i, b.shapes i, b.entries i))) right.entries;
          within = within_again;
          closed = subst (λ (x : Signature × List Term). AreClosed x.0 x.1) (sym (λ i. (signature_is i, terms_are i))) (h.right).closed;
          steps = subst (λ (x : Signature × List Shape × List Step). Fits x.0 (terms x.1) x.2) (sym (λ i. (b.signature i, b.shapes i, b.justs i))) right.steps;
          valued =
              subst (λ (x : Signature × System). AreValues x.0 x.1) (sym (λ i. (signature_is i, record { names = terms_are i; values = b.values_are i; rules = [] })))
              (h.right).valued;
          said = said_again;
          ruled = ruled_again;
          grounded = grounded_again;
          numbered = subst (λ (x : ℕ × List (ℕ × Assumed)). AreNumbered x.0 x.1) (sym (λ i. (b.next i, b.assumed i))) (h.right).numbered;
          read = read_again;
        }

    pub fits_again : (s : Stored) → FitsStore o s → FitsStore new s
    fits_again s f =
        record {
          right = right_again;
          terms = record {
            signature = (f.terms).signature ∙ sym b.signature;
            keeps = subst (λ (xs : List Shape). Keeps (terms xs) (terms_in s)) (sym b.shapes) (f.terms).keeps;
          };
        }
