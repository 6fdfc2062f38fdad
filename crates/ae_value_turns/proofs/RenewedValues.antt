-- Other values and more steps: what is held stays right, marks go on fitting, and conflicts stay.
use Rattle.std.specs.Prelude.{ℕ, ◌≤◌, List, [], ◌≡◌, length, take}
use Rattle.std.proofs.Common.{refl, sym, ap, ◌∙◌, subst, arith, length-take-le}
use Rattle.std.proofs.lemmas.List.{append-nil}
use Rattle.ae_conflicts.specs.Conflicting.{IsConflict}
use Rattle.ae_conflicts.specs.Saying.{RestsOnAssumed}
use Rattle.ae_conflicts.proofs.Kept.{conflict_kept}
use Rattle.ae_core.specs.declared.terms.Term.{Term}
use Rattle.ae_core.specs.declared.problems.Signature.{Signature}
use Rattle.ae_equation_turns.specs.Said.{IsHeld}
use Rattle.ae_journal.specs.Noted.{Noted}
use Rattle.ae_journal.specs.Standing.{Setting}
use Rattle.ae_just.specs.Steps.{Fits}
use Rattle.ae_just.specs.declared.steps.Step.{Step}
use Rattle.ae_name_lines.specs.Closed.{AreClosed}
use Rattle.ae_patterns.specs.Patterns.{AreEntriesOf}
use Rattle.ae_pmap.specs.Forest.{present}
use Rattle.ae_settled.specs.Valued.{AreValues}
use Rattle.ae_state.specs.Complete.{IsOwnConflict}
use Rattle.ae_state.specs.Fitting.{FitsStore}
use Rattle.ae_state.specs.Marks.{FitsMark}
use Rattle.ae_state.specs.Names.{all_terms, terms_now, assumed_in}
use Rattle.ae_state.specs.Right.{IsReason, of_value, of_rule, of_equation, IsRight}
use Rattle.ae_state.specs.declared.holding.Holding.{Holding}
use Rattle.ae_state.specs.declared.holding.Mark.{Mark}
use Rattle.ae_state.proofs.Growing.{held_more, said_more}
use Rattle.ae_state.proofs.Lasting.{marks_last}
use Rattle.ae_state.proofs.Reasons.{reason_within}
use Rattle.ae_store.specs.Growing.{IsFront}
use Rattle.ae_store.specs.Stores.{Stored}
use Rattle.ae_theory.specs.Names.{IsNamedBy, terms_in}
use Rattle.ae_theory.specs.Noting.{HasNoted, NotesLegal, MayAll, literals}
use Rattle.ae_turns.specs.Leading.{Leads}
use Rattle.ae_turns.specs.Representing.{IsTaken}
use Rattle.ae_value_fitting.specs.Fitting.{system_in, AreSaid}
use Rattle.ae_value_table.specs.Table.{Contents, held}
use Rattle.ae_value_turns.specs.Renewed.{renewed, KeepsEntries, AreRenewed}
use Rattle.ae_value_turns.proofs.GroundedSteps.{still_grounded}
use Rattle.ae_value_turns.proofs.TakenNames.{same, all_are, values_are, said_are}

-- ---- what is known of names for good
pub keeps_entries : (old new : Contents) → new.entries ≡ old.entries → new.taken ≡ old.taken → KeepsEntries old new
keeps_entries old new e t = λ i. record { entries = e i; taken = t i; rows = new.rows; leaves = new.leaves; justs = new.justs }

-- where all names have values, so many have one as before
pub as_many_taken : (o : Holding) (s : Stored) → IsTaken o s → (new : Contents) → new.entries ≡ o.values.entries → held new ≡ held o.values → new.taken ≤ length new.entries → new.taken ≡ o.values.taken
as_many_taken o s t new e names within =
    let first : length (held new) ≡ new.taken = length-take-le new.taken new.entries within in
    let second : length (held o.values) ≡ o.values.taken = length-take-le o.values.taken o.values.entries t.fits.right.within in
    sym first ∙ ap length names ∙ second

-- ---- more steps
module _ (o : Holding) (s : Stored) (t : IsTaken o s) (steps : List Step) (front : IsFront o.justs steps) (fits : Fits s.signature (terms_in s) steps) where
  pub own_fits : Fits o.signature (all_terms o) steps
  own_fits = subst (λ (z : Signature × List Term). Fits z.0 z.1 steps) (λ i. (t.fits.terms.signature i, sym (all_are o s t) i)) fits

  pub longer_by : (id : ℕ) → IsReason o id → RestsOnAssumed (all_terms o) steps (present o.assumed) id
  longer_by id r = still_grounded (all_terms o) (present o.assumed) o.signature o.justs steps front own_fits id (reason_within o t.fits.right id r) (t.fits.right.grounded id r)

  -- steps alone
  pub more_steps : AreRenewed s o o.values steps
  more_steps =
      record {
        front = front;
        fits = fits;
        entries = refl;
        valued = values_are o s t;
        said =
            subst (λ (xs : List Step). AreSaid s.signature (terms_in s) xs o.values) (sym front.1)
            (said_more s.signature (terms_in s) o.justs front.0 o.values (said_are o s t));
        grounded = λ id v. longer_by id (of_value v);
        lasts = λ shared then h. h;
      }

-- ---- all of it
module _ (o : Holding) (s : Stored) (t : IsTaken o s) (c : Contents) (steps : List Step) (n : AreRenewed s o c steps) where
  abbrev pub after : Holding
  after = renewed o c steps

  right : IsRight o
  right = t.fits.right

  entries_same : c.entries ≡ o.values.entries
  entries_same = ap (λ (x : Contents). x.entries) n.entries

  pub taken_same : c.taken ≡ o.values.taken
  taken_same = ap (λ (x : Contents). x.taken) n.entries

  pub terms_same : terms_now after ≡ terms_now o
  terms_same = ap (λ k. take k (all_terms o)) taken_same

  -- from the store's names to those that are held
  pub back : ◌≡◌ {A = Signature × List Term} (s.signature, terms_in s) (o.signature, terms_now after)
  back = sym (same o s t) ∙ (λ i. (o.signature, sym terms_same i))

  longer : (id : ℕ) → IsReason o id → RestsOnAssumed (all_terms o) steps (present o.assumed) id
  longer = longer_by o s t steps n.front n.fits

  reasons : (id : ℕ) → IsReason after id → RestsOnAssumed (all_terms o) steps (present o.assumed) id
  reasons id (of_value v) = n.grounded id v
  reasons id (of_rule k rule at j) = longer id (of_rule k rule at j)
  reasons id (of_equation w e j) = longer id (of_equation w e j)

  ruled : IsHeld o.signature (terms_now after) steps o.equations
  ruled =
      subst (λ (z : List Term × List Step). IsHeld o.signature z.0 z.1 o.equations) (λ i. (sym terms_same i, sym n.front.1 i))
      (held_more o.signature (terms_now o) o.justs n.front.0 o.equations right.ruled)

  right_after : IsRight after
  right_after =
      record {
        entries = subst (AreEntriesOf o.signature (all_terms o)) (sym entries_same) right.entries;
        within = omega (arith, right.within, taken_same, ap length entries_same);
        closed = subst (AreClosed o.signature) (sym terms_same) right.closed;
        steps = own_fits o s t steps n.front n.fits;
        valued = subst (λ (z : Signature × List Term). AreValues z.0 (system_in z.1 c)) back n.valued;
        said = subst (λ (z : Signature × List Term). AreSaid z.0 z.1 steps c) back n.said;
        ruled = ruled;
        grounded = reasons;
        numbered = right.numbered;
        read = λ place a at.
            let r = right.read place a at in
            record {
              what = r.what;
              at = r.at;
              named = λ z h. r.named z (record { signature = h.signature; keeps = h.keeps });
              says = λ z store h. r.says z store (record { signature = h.signature; keeps = h.keeps });
            };
      }

  fits_after : FitsStore after s
  fits_after = record { right = right_after; terms = record { signature = t.fits.terms.signature; keeps = t.fits.terms.keeps } }

  pub taken_after : IsTaken after s
  taken_after = record { store = t.store; fits = fits_after; all = terms_same ∙ t.all }

  marks_after : (m : Mark) (then : Holding) → FitsMark o m then → FitsMark after m then
  marks_after m then h =
      marks_last o after
      (record {
        values = n.lasts;
        equations = λ shared d z. z;
        assumed = λ root map z. z;
        said = λ root map z. z;
        signature = refl;
        shapes = ([], sym (append-nil o.shapes));
        justs = n.front;
        conflicts = ([], sym (append-nil o.conflicts));
      }) m then h

  conflict_after : (k : ℕ) → IsOwnConflict o k → IsOwnConflict after k
  conflict_after k x =
      record {
        conflict = x.conflict;
        at = x.at;
        is =
            subst (λ (xs : List Step). IsConflict o.signature (all_terms o) xs (present o.assumed) x.conflict) (sym n.front.1)
            (conflict_kept (present o.assumed) (present o.assumed) (record { each = λ place entry e. e }) o.signature (all_terms o) (all_terms o) o.justs n.front.0 (λ i u e. e) right.steps x.conflict x.is);
      }

  -- with lines that were noted
  pub leads_after : (j k : Noted) → HasNoted j k
      → ((x : Setting) (bound : ℕ) → IsNamedBy x s j.lines → MayAll x (literals (assumed_in o)) j.lines → NotesLegal x bound j.lines k.lines) → Leads s o j after k
  leads_after j k noted legal = record { fits = fits_after; assumed = refl; noted = noted; legal = legal; marks = marks_after; conflicts = conflict_after }
