-- A conflict that is kept: what is held stays right.
use Rattle.std.specs.Prelude.{ℕ, List, [], ◌∷◌, ◌++◌, length}
use Rattle.std.proofs.Common.{refl, sym}
use Rattle.std.proofs.lemmas.List.{append-nil}
use Rattle.ae_base.proofs.ListFacts.{get_append, get_seam}
use Rattle.ae_pmap.specs.Forest.{present}
use Rattle.ae_journal.specs.Noted.{Noted}
use Rattle.ae_journal.specs.declared.lines.Line.{Line}
use Rattle.ae_store.specs.Stores.{Stored}
use Rattle.ae_conflicts.specs.declared.conflicts.Conflict.{Conflict}
use Rattle.ae_conflicts.specs.Conflicting.{IsConflict}
use Rattle.ae_state.specs.Complete.{IsOwnConflict}
use Rattle.ae_state.specs.Fitting.{FitsStore}
use Rattle.ae_state.specs.Marks.{FitsMark}
use Rattle.ae_state.specs.Names.{all_terms}
use Rattle.ae_state.specs.Right.{IsReason, of_value, of_rule, of_equation, IsRight}
use Rattle.ae_state.specs.Stepping.{IsInStep}
use Rattle.ae_state.specs.declared.holding.Holding.{Holding}
use Rattle.ae_state.specs.declared.holding.Mark.{Mark}
use Rattle.ae_state.proofs.Lasting.{marks_last}
use Rattle.ae_turns.specs.Leading.{Leads}
use Rattle.ae_turns.specs.Representing.{IsTaken}
use Rattle.ae_turns.proofs.Steps.{noted_none, legal_none}

module _ (o : Holding) (c : Conflict) where
  abbrev pub conflicted : Holding
  conflicted = record o { conflicts = o.conflicts ++ c ∷ [] }

  reason_before : (id : ℕ) → IsReason conflicted id → IsReason o id
  reason_before id (of_value v) = of_value v
  reason_before id (of_rule n rule e j) = of_rule n rule e j
  reason_before id (of_equation w e j) = of_equation w e j

  right_conflicted : IsRight o → IsRight conflicted
  right_conflicted right = record {
    entries = right.entries;
    within = right.within;
    closed = right.closed;
    steps = right.steps;
    valued = right.valued;
    said = right.said;
    ruled = right.ruled;
    grounded = λ id r. right.grounded id (reason_before id r);
    numbered = right.numbered;
    read = λ place a at.
        let r = right.read place a at in
        record {
          what = r.what;
          at = r.at;
          named = λ z h. r.named z (record { signature = h.signature; keeps = h.keeps });
          says = λ z store h. r.says z store (record { signature = h.signature; keeps = h.keeps });
        };
  }

  marks_conflicted : (m : Mark) (then : Holding) → FitsMark o m then → FitsMark conflicted m then
  marks_conflicted m then h =
      marks_last o conflicted
      (record {
        values = λ shared d z. z;
        equations = λ shared d z. z;
        assumed = λ root map z. z;
        said = λ root map z. z;
        signature = refl;
        shapes = ([], sym (append-nil o.shapes));
        justs = ([], sym (append-nil o.justs));
        conflicts = (c ∷ [], refl);
      }) m then h

  -- its number is the last
  pub own_conflicted : IsConflict o.signature (all_terms o) o.justs (present o.assumed) c → IsOwnConflict conflicted (length o.conflicts)
  own_conflicted is = record { conflict = c; at = get_seam o.conflicts [] c; is = is }

  pub step_conflicted : (js : List Line) → IsInStep o js → IsInStep conflicted js
  step_conflicted js h = record { valued = h.valued; solved = h.solved; ruled = h.ruled }

  module _ (s : Stored) (t : IsTaken o s) where
    fits_conflicted : FitsStore conflicted s
    fits_conflicted = record { right = right_conflicted (t.fits).right; terms = record { signature = ((t.fits).terms).signature; keeps = ((t.fits).terms).keeps } }

    pub taken_conflicted : IsTaken conflicted s
    taken_conflicted = record { store = t.store; fits = fits_conflicted; all = t.all }

    pub leads_conflicted : (j : Noted) → Leads s o j conflicted j
    leads_conflicted j = record {
      fits = fits_conflicted;
      assumed = refl;
      noted = noted_none j;
      legal = λ x bound named may. legal_none x bound j.lines;
      marks = marks_conflicted;
      conflicts = λ k x. record { conflict = x.conflict; at = get_append o.conflicts (c ∷ []) k x.conflict x.at; is = x.is };
    }
