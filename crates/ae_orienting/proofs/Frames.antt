-- What is held, with other equations, and a line that says so.
use Rattle.std.specs.Prelude.{ℕ, true, [], ◌∷◌, ◌++◌, ◌≡◌}
use Rattle.std.proofs.Common.{refl, sym, ap, ◌∙◌, subst}
use Rattle.std.proofs.lemmas.List.{append_cancel_left}
use Rattle.ae_conflicts.specs.Saying.{RestsOnAssumed}
use Rattle.ae_equation_turns.specs.Said.{IsHeld}
use Rattle.ae_equations.specs.Held.{Contents as Equations}
use Rattle.ae_equations.specs.Versions.{Lasts as EquationsLast}
use Rattle.ae_journal.specs.Legal.{AreLegal, IsLegalLine}
use Rattle.ae_journal.specs.Noted.{Noted}
use Rattle.ae_journal.specs.Standing.{Setting}
use Rattle.ae_journal.specs.declared.lines.Line.{Line}
use Rattle.ae_pmap.specs.Forest.{present}
use Rattle.ae_store.specs.Stores.{Stored}
use Rattle.ae_theory.specs.Names.{IsNamedBy}
use Rattle.ae_theory.specs.Noting.{is_theory_line}
use Rattle.ae_state.specs.declared.holding.Holding.{Holding}
use Rattle.ae_state.specs.Names.{all_terms, terms_now}
use Rattle.ae_state.specs.Right.{IsReason, IsRight}
use Rattle.ae_turns.specs.Leading.{Leads}
use Rattle.ae_turns.specs.Representing.{IsTaken}
use Rattle.ae_turns.proofs.DroppedRules.{with_equations, marks_with, conflict_with}
use Rattle.ae_turns.proofs.Steps.{noted_none, legal_none}

-- all is right where the equations are held, and their steps rest on assumed literals alone
pub right_by : (o : Holding) (e : Equations) → IsRight o → IsHeld o.signature (terms_now o) o.justs e
    → ((id : ℕ) → IsReason (with_equations o e) id → RestsOnAssumed (all_terms o) o.justs (present o.assumed) id) → IsRight (with_equations o e)
right_by o e right held rests =
    record {
      entries = right.entries;
      within = right.within;
      closed = right.closed;
      steps = right.steps;
      valued = right.valued;
      said = right.said;
      ruled = held;
      grounded = rests;
      numbered = right.numbered;
      read = λ place a at.
          let w = right.read place a at in
          record {
            what = w.what;
            at = w.at;
            named = λ s h. w.named s (record { signature = h.signature; keeps = h.keeps });
            says = λ s store h. w.says s store (record { signature = h.signature; keeps = h.keeps });
          };
    }

module _ (o : Holding) (s : Stored) (t : IsTaken o s) (e : Equations) (right : IsRight (with_equations o e)) where
  pub taken_after : IsTaken (with_equations o e) s
  taken_after =
      record { store = t.store; fits = record { right = right; terms = record { signature = ((t.fits).terms).signature; keeps = ((t.fits).terms).keeps } }; all = t.all }

  module _ (lasts : EquationsLast o.equations e) (j : Noted) where
    -- no line
    pub equations_lead : Leads s o j (with_equations o e) j
    equations_lead =
        record {
          fits = taken_after.fits;
          assumed = refl;
          noted = noted_none j;
          legal = λ x bound named may. legal_none x bound j.lines;
          marks = marks_with o e lasts;
          conflicts = conflict_with o e;
        }

    -- one line
    pub line_leads : (k : Noted) (l : Line) → k ≡ record j { lines = j.lines ++ l ∷ [] } → is_theory_line l ≡ true → ((x : Setting) (bound : ℕ) → IsNamedBy x s j.lines → IsLegalLine x bound j.lines l)
        → Leads s o j (with_equations o e) k
    line_leads k l is theory legal =
        let lines : k.lines ≡ j.lines ++ l ∷ [] = ap (λ (z : Noted). z.lines) is in
        record {
          fits = taken_after.fits;
          assumed = refl;
          noted = record { added = l ∷ []; is = lines; limit = ap (λ (z : Noted). z.limit) is; theory = (theory, tt) };
          legal = λ x bound named may added f.
              subst (AreLegal x bound j.lines) (append_cancel_left j.lines (l ∷ []) added (sym lines ∙ f)) (legal x bound named, tt);
          marks = marks_with o e lasts;
          conflicts = conflict_with o e;
        }
