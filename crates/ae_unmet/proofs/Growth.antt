-- What holds of a holding with more steps and more conflicts.
use Rattle.std.specs.Prelude.{ℕ, List, [], ◌∷◌, ◌++◌, ◌≡◌, slice_get, Some, Result, Ok, Err, IfOk, OnOk, OnErr, IsTrue}
use Rattle.std.proofs.Common.{refl, sym, ap, ◌∙◌, subst}
use Rattle.std.proofs.lemmas.List.{append-nil}
use Rattle.std.proofs.lemmas.Result.{IfOk-weaker}
use Rattle.ae_base.proofs.ListFacts.{get_append}
use Rattle.ae_core.specs.declared.terms.Term.{Term}
use Rattle.ae_core.specs.declared.problems.Signature.{Signature}
use Rattle.ae_journal.specs.Noted.{Noted}
use Rattle.ae_journal.specs.declared.lines.Line.{Line}
use Rattle.ae_pmap.specs.Forest.{present}
use Rattle.ae_store.specs.Growing.{IsFront}
use Rattle.ae_store.specs.Stores.{Stored}
use Rattle.ae_just.specs.declared.steps.Step.{Step}
use Rattle.ae_just.specs.Steps.{Fits}
use Rattle.ae_theory.specs.Names.{terms_in}
use Rattle.ae_equation_turns.specs.Said.{IsHeld}
use Rattle.ae_value_fitting.specs.Fitting.{AreSaid}
use Rattle.ae_value_table.specs.Alike.{alike}
use Rattle.ae_conflicts.specs.Saying.{AreKept, RestsOnAssumed}
use Rattle.ae_conflicts.specs.Conflicting.{IsConflict}
use Rattle.ae_conflicts.specs.declared.conflicts.Conflict.{Conflict}
use Rattle.ae_conflicts.proofs.Kept.{conflict_kept}
use Rattle.ae_state.specs.declared.holding.Holding.{Holding}
use Rattle.ae_state.specs.declared.holding.Mark.{Mark}
use Rattle.ae_state.specs.Names.{all_terms, terms_now, assumed_in}
use Rattle.ae_state.specs.Right.{IsReason, of_value, of_rule, of_equation, IsRight}
use Rattle.ae_state.specs.Fitting.{FitsStore}
use Rattle.ae_state.specs.Marks.{FitsMark}
use Rattle.ae_state.specs.Stepping.{IsInStep}
use Rattle.ae_state.specs.Complete.{IsOwnConflict}
use Rattle.ae_state.proofs.Growing.{said_more, held_more, rests_kept}
use Rattle.ae_state.proofs.Lasting.{front_then, marks_last}
use Rattle.ae_state.proofs.Reasons.{reason_within}
use Rattle.ae_state.proofs.Explained.{steps_in_store}
use Rattle.ae_turns.specs.Leading.{Leads}
use Rattle.ae_turns.specs.Representing.{IsTaken}
use Rattle.ae_turns.proofs.Steps.{noted_none, legal_none}
use Rattle.ae_unmet.specs.Inner.Found.{HaveOneValue}
use Rattle.ae_unmet.specs.Inner.Growing.{HasGrown}
use Rattle.ae_unmet.proofs.TakenNames.{in_all}

-- ---- nothing, more steps, and more conflicts
pub front_none : {A : Type 0} (xs : List A) → IsFront xs xs
front_none xs = ([], sym (append-nil xs))

pub pushed_front : {A T E : Type 0} (old new : List A) (x : A) (r : Result T E) → OnOk r (new ≡ old ++ x ∷ []) → OnErr r (new ≡ old) → IsFront old new
pushed_front old new x (Ok u) e f = (x ∷ [], e)
pushed_front old new x (Err w) e f = ([], f ∙ sym (append-nil old))

pub grown_none : (s : Stored) (o : Holding) → FitsStore o s → HasGrown s o o
grown_none s o fits = record { others = refl; justs = front_none o.justs; conflicts = front_none o.conflicts; steps = steps_in_store o s fits }

module _ (s : Stored) (o p q : Holding) (a : HasGrown s o p) where
  pub grown_then : HasGrown s p q → HasGrown s o q
  grown_then b =
      record {
        others = b.others ∙ (λ i. record (a.others i) { justs = q.justs; conflicts = q.conflicts });
        justs = front_then o.justs p.justs q.justs a.justs b.justs;
        conflicts = front_then o.conflicts p.conflicts q.conflicts a.conflicts b.conflicts;
        steps = b.steps;
      }

  module _ (front : IsFront p.conflicts q.conflicts) (is : q ≡ record p { conflicts = q.conflicts }) where
    same_steps : q.justs ≡ p.justs
    same_steps = ap (λ (x : Holding). x.justs) is

    pub grown_pushed : HasGrown s o q
    grown_pushed =
        grown_then
        (record {
          others = is ∙ (λ i. record p { justs = sym same_steps i; conflicts = q.conflicts });
          justs = ([], same_steps ∙ sym (append-nil p.justs));
          conflicts = front;
          steps = subst (Fits s.signature (terms_in s)) (sym same_steps) a.steps;
        })

-- ---- all of it
module _ (s : Stored) (o new : Holding) (t : IsTaken o s) (g : HasGrown s o new) where
  abbrev grown : Holding
  grown = record o { justs = new.justs; conflicts = new.conflicts }

  right : IsRight o
  right = (t.fits).right

  kept_all : AreKept (present o.assumed) (present o.assumed)
  kept_all = record { each = λ place entry e. e }

  reason_before : (id : ℕ) → IsReason grown id → IsReason o id
  reason_before id (of_value s) = of_value s
  reason_before id (of_rule n rule e j) = of_rule n rule e j
  reason_before id (of_equation w e j) = of_equation w e j

  rests : (id : ℕ) → IsReason grown id → RestsOnAssumed (all_terms o) new.justs (present o.assumed) id
  rests id r =
      let before = reason_before id r in
      subst (λ (steps : List Step). RestsOnAssumed (all_terms o) steps (present o.assumed) id) (sym (g.justs).1)
      (rests_kept (present o.assumed) (present o.assumed) kept_all o.signature (all_terms o) (all_terms o) o.justs (g.justs).0 (λ i u e. e) right.steps id (reason_within o right id before) (right.grounded id before))

  right_grown : IsRight grown
  right_grown =
      record {
        entries = right.entries;
        within = right.within;
        closed = right.closed;
        steps = subst (λ (x : Signature × List Term). Fits x.0 x.1 new.justs) (sym (in_all o s t)) g.steps;
        valued = right.valued;
        said = subst (λ (steps : List Step). AreSaid o.signature (terms_now o) steps o.values) (sym (g.justs).1) (said_more o.signature (terms_now o) o.justs (g.justs).0 o.values right.said);
        ruled = subst (λ (steps : List Step). IsHeld o.signature (terms_now o) steps o.equations) (sym (g.justs).1) (held_more o.signature (terms_now o) o.justs (g.justs).0 o.equations right.ruled);
        grounded = rests;
        numbered = right.numbered;
        read = λ place a at.
            let r = right.read place a at in
            record { what = r.what; at = r.at; named = λ u h. r.named u (record { signature = h.signature; keeps = h.keeps }); says = λ u store h. r.says u store (record { signature = h.signature; keeps = h.keeps }) };
      }

  fits_grown : FitsStore grown s
  fits_grown = record { right = right_grown; terms = record { signature = ((t.fits).terms).signature; keeps = ((t.fits).terms).keeps } }

  pub taken_grown : IsTaken new s
  taken_grown = subst (λ (x : Holding). IsTaken x s) (sym g.others) (record { store = t.store; fits = fits_grown; all = t.all })

  pub step_grown : (js : List Line) → IsInStep o js → IsInStep new js
  step_grown js i = subst (λ (x : Holding). IsInStep x js) (sym g.others) (record { valued = i.valued; solved = i.solved; ruled = i.ruled })

  marks_grown : (m : Mark) (then : Holding) → FitsMark o m then → FitsMark new m then
  marks_grown m then h =
      subst (λ (x : Holding). FitsMark x m then) (sym g.others)
      (marks_last o grown
      (record {
        values = λ shared c u. u;
        equations = λ shared c u. u;
        assumed = λ root map u. u;
        said = λ root map u. u;
        signature = refl;
        shapes = front_none o.shapes;
        justs = g.justs;
        conflicts = g.conflicts;
      }) m then h)

  conflicts_grown : (k : ℕ) → IsOwnConflict o k → IsOwnConflict new k
  conflicts_grown k c =
      subst (λ (x : Holding). IsOwnConflict x k) (sym g.others)
      (record {
        conflict = c.conflict;
        at = subst (λ (cs : List Conflict). slice_get cs k ≡ Some c.conflict) (sym (g.conflicts).1) (get_append o.conflicts (g.conflicts).0 k c.conflict c.at);
        is =
            subst (λ (steps : List Step). IsConflict o.signature (all_terms o) steps (present o.assumed) c.conflict) (sym (g.justs).1)
            (conflict_kept (present o.assumed) (present o.assumed) kept_all o.signature (all_terms o) (all_terms o) o.justs (g.justs).0 (λ i u e. e) right.steps c.conflict c.is);
      })

  pub assumed_grown : assumed_in new ≡ assumed_in o
  assumed_grown = ap assumed_in g.others

  pub grown_leads : (j : Noted) → Leads s o j new j
  grown_leads j =
      record {
        fits = (taken_grown).fits;
        assumed = assumed_grown;
        noted = noted_none j;
        legal = λ x bound named may. legal_none x bound j.lines;
        marks = marks_grown;
        conflicts = conflicts_grown;
      }

  -- a conflict of the new steps
  pub own_now : (k : ℕ) (c : Conflict) → slice_get new.conflicts k ≡ Some c → IsConflict s.signature (terms_in s) new.justs (present o.assumed) c → IsOwnConflict new k
  own_now k c at is =
      subst (λ (x : Holding). IsOwnConflict x k) (sym g.others)
      (record { conflict = c; at = at; is = subst (λ (x : Signature × List Term). IsConflict x.0 x.1 new.justs (present o.assumed) c) (sym (in_all o s t)) is })

-- names keep their values
pub value_grown : (s : Stored) (o new : Holding) → HasGrown s o new → (m n : ℕ) → HaveOneValue s o m n → HaveOneValue s new m n
value_grown s o new g m n h =
    record { left_sorted = h.left_sorted; right_sorted = h.right_sorted; alike_are = subst (λ (x : Holding). IsTrue (alike x.values m n)) (sym g.others) h.alike_are }

-- a conflict that is pushed
module _ (s : Stored) (o p q : Holding) (t : IsTaken o s) (a : HasGrown s o p) (front : IsFront p.conflicts q.conflicts) (is : q ≡ record p { conflicts = q.conflicts }) where
  pub own_pushed : {E : Type 0} (c : Conflict) → IsConflict s.signature (terms_in s) p.justs (present o.assumed) c → (r : Result ℕ E) → IfOk r (λ k. slice_get q.conflicts k ≡ Some c) → IfOk r (IsOwnConflict q)
  own_pushed c h r at =
      IfOk-weaker r (λ k. slice_get q.conflicts k ≡ Some c) (IsOwnConflict q)
      (λ k e. own_now s o q t (grown_pushed s o p q a front is) k c e
      (subst (λ (steps : List Step). IsConflict s.signature (terms_in s) steps (present o.assumed) c) (sym (ap (λ (x : Holding). x.justs) is)) h)) at
