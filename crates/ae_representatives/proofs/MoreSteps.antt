-- What is held, with more steps.
use Rattle.std.specs.Prelude.{ℕ, ◌<◌, ◌⊎◌, List, [], length}
use Rattle.std.proofs.Common.{refl, sym, subst, inl, inr}
use Rattle.std.proofs.lemmas.List.{append-nil}
use Rattle.ae_core.specs.declared.terms.Term.{Term}
use Rattle.ae_core.specs.declared.problems.Signature.{Signature}
use Rattle.ae_conflicts.specs.declared.assumed.Assumed.{Assumed}
use Rattle.ae_conflicts.specs.Conflicting.{IsConflict}
use Rattle.ae_conflicts.specs.Saying.{AreKept, RestsOnAssumed}
use Rattle.ae_conflicts.proofs.Kept.{conflict_kept}
use Rattle.ae_equation_turns.specs.Said.{IsHeld}
use Rattle.ae_journal.specs.Noted.{Noted}
use Rattle.ae_journal.specs.declared.lines.Line.{Line}
use Rattle.ae_just.specs.Steps.{Fits}
use Rattle.ae_just.specs.declared.steps.Step.{Step}
use Rattle.ae_multiset_steps.specs.Equating.{RestsOnThese}
use Rattle.ae_pmap.specs.Forest.{present}
use Rattle.ae_store.specs.Growing.{IsFront}
use Rattle.ae_store.specs.Parts.{IsIn}
use Rattle.ae_store.specs.Stores.{Stored}
use Rattle.ae_store.proofs.PartLaws.{in_none}
use Rattle.ae_theory.specs.Names.{terms_in}
use Rattle.ae_value_fitting.specs.Fitting.{AreSaid}
use Rattle.ae_value_fitting.specs.Sources.{SaysValue, RestsOnValues}
use Rattle.ae_state.specs.declared.holding.Holding.{Holding}
use Rattle.ae_state.specs.declared.holding.Mark.{Mark}
use Rattle.ae_state.specs.Names.{all_terms, terms_now}
use Rattle.ae_state.specs.Right.{IsReason, of_value, of_rule, of_equation, IsRight}
use Rattle.ae_state.specs.Marks.{FitsMark}
use Rattle.ae_state.specs.Stepping.{IsInStep}
use Rattle.ae_state.specs.Complete.{IsOwnConflict}
use Rattle.ae_state.proofs.Growing.{said_more, held_more, rests_kept}
use Rattle.ae_state.proofs.Lasting.{marks_last}
use Rattle.ae_state.proofs.Reasons.{reason_within}
use Rattle.ae_turns.specs.Leading.{Leads}
use Rattle.ae_turns.specs.Representing.{IsTaken, AreRepresentatives}
use Rattle.ae_turns.proofs.Steps.{noted_none, legal_none}
use Rattle.ae_representatives.proofs.Taken.{seen_all}

kept_still : (held : List (ℕ × Assumed)) → AreKept held held
kept_still held = record { each = λ place entry e. e }

module _ (o : Holding) (js : List Step) where
  abbrev pub with_steps : Holding
  with_steps = record o { justs = js }

  pub reason_same : (id : ℕ) → IsReason with_steps id → IsReason o id
  reason_same id (of_value s) = of_value s
  reason_same id (of_rule n rule e j) = of_rule n rule e j
  reason_same id (of_equation w e j) = of_equation w e j

  pub step_more : (ls : List Line) → IsInStep o ls → IsInStep with_steps ls
  step_more ls h = record { valued = h.valued; solved = h.solved; ruled = h.ruled }

  pub reps_more : (reps : List ℕ) → AreRepresentatives o reps → AreRepresentatives with_steps reps
  reps_more reps r = record { one_each = r.one_each; least = r.least }

  -- ---- what new steps rest on
  -- on steps that rest on assumed literals alone
  pub rests_by_these : (given : List ℕ) (id : ℕ) → RestsOnThese o.justs js id given → ((p : ℕ) → IsIn p given → RestsOnAssumed (all_terms o) o.justs (present o.assumed) p)
      → RestsOnAssumed (all_terms o) js (present o.assumed) id
  rests_by_these given id r h = record { each = λ k tag s on at is. (let w = r.each k tag s on at is in (h w.by w.one).each k tag s w.rests w.there is) }

  -- on steps that say values
  pub rests_by_values : IsRight o → (id : ℕ) → RestsOnValues o.justs js o.values [] id → RestsOnAssumed (all_terms o) js (present o.assumed) id
  rests_by_values right id r = record { each = λ k tag s on at is. (let w = r.each k tag s on at is in (by_one w.by w.one).each k tag s w.rests w.there is) }
    where
      by_one : (by : ℕ) → IsIn by [] ⊎ SaysValue o.values by → RestsOnAssumed (all_terms o) o.justs (present o.assumed) by
      by_one by (inl m) = absurd (in_none by m)
      by_one by (inr s) = right.grounded by (of_value s)

  module _ (front : IsFront o.justs js) where
    pub rests_more : Fits o.signature (all_terms o) o.justs → (id : ℕ) → id < length o.justs → RestsOnAssumed (all_terms o) o.justs (present o.assumed) id → RestsOnAssumed (all_terms o) js (present o.assumed) id
    rests_more fits id l r =
        subst (λ (ks : List Step). RestsOnAssumed (all_terms o) ks (present o.assumed) id) (sym front.1)
        (rests_kept (present o.assumed) (present o.assumed) (kept_still (present o.assumed)) o.signature (all_terms o) (all_terms o) o.justs front.0 (λ i u e. e) fits id l r)

    pub marks_more : (m : Mark) (then : Holding) → FitsMark o m then → FitsMark with_steps m then
    marks_more m then h =
        marks_last o with_steps
        (record {
          values = λ shared c z. z;
          equations = λ shared c z. z;
          assumed = λ root map z. z;
          said = λ root map z. z;
          signature = refl;
          shapes = ([], sym (append-nil o.shapes));
          justs = front;
          conflicts = ([], sym (append-nil o.conflicts));
        }) m then h

    pub conflict_more : Fits o.signature (all_terms o) o.justs → (k : ℕ) → IsOwnConflict o k → IsOwnConflict with_steps k
    conflict_more fits k c =
        record {
          conflict = c.conflict;
          at = c.at;
          is =
              subst (λ (ks : List Step). IsConflict o.signature (all_terms o) ks (present o.assumed) c.conflict) (sym front.1)
              (conflict_kept (present o.assumed) (present o.assumed) (kept_still (present o.assumed)) o.signature (all_terms o) (all_terms o) o.justs front.0 (λ i u e. e) fits c.conflict c.is);
        }

    -- all stays right
    pub right_more : IsRight o → Fits o.signature (all_terms o) js → IsRight with_steps
    right_more right fits =
        record {
          entries = right.entries;
          within = right.within;
          closed = right.closed;
          steps = fits;
          valued = right.valued;
          said = subst (λ (ks : List Step). AreSaid o.signature (terms_now o) ks o.values) (sym front.1) (said_more o.signature (terms_now o) o.justs front.0 o.values right.said);
          ruled = subst (λ (ks : List Step). IsHeld o.signature (terms_now o) ks o.equations) (sym front.1) (held_more o.signature (terms_now o) o.justs front.0 o.equations right.ruled);
          grounded = λ id q. (let before = reason_same id q in rests_more right.steps id (reason_within o right id before) (right.grounded id before));
          numbered = right.numbered;
          read = λ place a at.
              let w = right.read place a at in
              record {
                what = w.what;
                at = w.at;
                named = λ s h. w.named s (record { signature = h.signature; keeps = h.keeps });
                says = λ s store h. w.says s store (record { signature = h.signature; keeps = h.keeps });
              };
        }

    -- ---- a step of saturation that adds steps alone
    module _ (s : Stored) (t : IsTaken o s) (fits : Fits s.signature (terms_in s) js) where
      fits_own : Fits o.signature (all_terms o) js
      fits_own = subst (λ (z : Signature × List Term). Fits z.0 z.1 js) (sym (seen_all o s t)) fits

      pub taken_more : IsTaken with_steps s
      taken_more = record {
        store = t.store;
        fits = record { right = right_more (t.fits).right fits_own; terms = record { signature = ((t.fits).terms).signature; keeps = ((t.fits).terms).keeps } };
        all = t.all;
      }

      pub steps_lead : (j : Noted) → Leads s o j with_steps j
      steps_lead j =
          record {
            fits = taken_more.fits;
            assumed = refl;
            noted = noted_none j;
            legal = λ x bound named may. legal_none x bound j.lines;
            marks = marks_more;
            conflicts = conflict_more ((t.fits).right).steps;
          }
