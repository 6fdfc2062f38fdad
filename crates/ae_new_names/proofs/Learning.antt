-- To take note of names is a step.
use Rattle.std.specs.Prelude.{List, [], ◌≡◌}
use Rattle.std.proofs.Common.{refl, sym, ap, subst}
use Rattle.std.proofs.lemmas.List.{append-nil}
use Rattle.ae_journal.specs.Noted.{Noted}
use Rattle.ae_journal.specs.declared.lines.Line.{Line}
use Rattle.ae_store.specs.Growing.{IsFront}
use Rattle.ae_store.specs.Stores.{Stored}
use Rattle.ae_state.specs.declared.holding.Holding.{Holding}
use Rattle.ae_state.specs.declared.holding.Mark.{Mark}
use Rattle.ae_state.specs.Names.{assumed_in}
use Rattle.ae_state.specs.Right.{IsRight}
use Rattle.ae_state.specs.Fitting.{FitsStore}
use Rattle.ae_state.specs.Marks.{FitsMark}
use Rattle.ae_state.specs.Stepping.{IsInStep}
use Rattle.ae_state.specs.Complete.{IsOwnConflict}
use Rattle.ae_state.proofs.Lasting.{marks_last}
use Rattle.ae_state.proofs.Learning.{step_grown, conflict_grown}
use Rattle.ae_turns.specs.Leading.{Leads}
use Rattle.ae_turns.proofs.Steps.{noted_none, legal_none}

module _ (s : Stored) (o p : Holding) (right : IsRight o) (front : IsFront o.shapes p.shapes) (others : p ≡ record o { shapes = p.shapes }) where
  marks_learnt : (m : Mark) (then : Holding) → FitsMark o m then → FitsMark p m then
  marks_learnt m then h =
      subst (λ (x : Holding). FitsMark x m then) (sym others)
      (marks_last o (record o { shapes = p.shapes })
      (record {
        values = λ shared c z. z;
        equations = λ shared c z. z;
        assumed = λ root map z. z;
        said = λ root map z. z;
        signature = refl;
        shapes = front;
        justs = ([], sym (append-nil o.justs));
        conflicts = ([], sym (append-nil o.conflicts));
      }) m then h)

  pub learnt_step : (js : List Line) → IsInStep o js → IsInStep p js
  learnt_step js i = subst (λ (x : Holding). IsInStep x js) (sym others) (step_grown o p.shapes front right js i)

  pub learnt_leads : FitsStore p s → (j : Noted) → Leads s o j p j
  learnt_leads fits j =
      record {
        fits = fits;
        assumed = ap assumed_in others;
        noted = noted_none j;
        legal = λ x bound named may. legal_none x bound j.lines;
        marks = marks_learnt;
        conflicts = λ k c. subst (λ (x : Holding). IsOwnConflict x k) (sym others) (conflict_grown o p.shapes front right k c);
      }
