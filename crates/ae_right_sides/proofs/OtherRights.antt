-- Other right sides for rules: one rule at a time, and one time after another.
use Rattle.std.specs.Prelude.{ℕ, List, [], ◌≡◌, map, Option, Some}
use Rattle.std.specs.List.{Contains}
use Rattle.std.proofs.Common.{refl, sym, ap, ◌∙◌, subst}
use Rattle.std.proofs.lemmas.List.{append-nil}
use Rattle.std.proofs.lemmas.Option.{same_Some}
use native.Mathlib.Decide.{ℕ_discrete}
use Rattle.ae_core.specs.declared.terms.Term.{Term}
use Rattle.ae_core.specs.declared.problems.Signature.{Signature}
use Rattle.ae_pmap.specs.Forest.{present}
use Rattle.ae_journal.specs.Noted.{Noted}
use Rattle.ae_journal.specs.declared.lines.Line.{Line}
use Rattle.ae_journal.specs.declared.systems.RuleEntry.{RuleEntry}
use Rattle.ae_store.specs.Growing.{IsFront}
use Rattle.ae_store.specs.Stores.{Stored}
use Rattle.ae_store.proofs.EnterLaws.{front_same, front_then}
use Rattle.ae_just.specs.declared.steps.Step.{Step}
use Rattle.ae_just.specs.Steps.{Fits}
use Rattle.ae_theory.specs.Names.{terms_in}
use Rattle.ae_monoid.specs.Rules.{rule_at}
use Rattle.ae_monoid.specs.Changes.{with_right}
use Rattle.ae_monoid.specs.declared.rules.Kept.{Kept}
use Rattle.ae_sweeps.specs.Given.{entries_of, entry_of as entry_in}
use Rattle.ae_equations.specs.declared.pairs.Pairs.{Pairs}
use Rattle.ae_equations.specs.declared.queue.Queue.{Queue}
use Rattle.ae_equations.specs.declared.queue.Waiting.{Waiting}
use Rattle.ae_equations.specs.Held.{Contents as Equations}
use Rattle.ae_equations.specs.Paired.{partners}
use Rattle.ae_equations.specs.Queued.{waiting}
use Rattle.ae_equations.specs.Versions.{Lasts as EquationsLast}
use Rattle.ae_equation_turns.specs.Said.{IsHeld}
use Rattle.ae_equation_turns.specs.Turned.{IsComposed}
use Rattle.ae_rule_lines.specs.InStep.{AreRulesInStep}
use Rattle.ae_rule_lines.specs.Lineage.{DescendsIn}
use Rattle.ae_rule_lines.proofs.NewSides.{new_rights_keep}
use Rattle.ae_rule_changes.proofs.Turned.{composed_new}
use Rattle.ae_conflicts.specs.Saying.{RestsOnAssumed}
use Rattle.ae_value_fitting.specs.Fitting.{AreSaid}
use Rattle.ae_state.specs.declared.holding.Holding.{Holding}
use Rattle.ae_state.specs.declared.holding.Mark.{Mark}
use Rattle.ae_state.specs.Names.{all_terms, terms_now, rules_now, assumed_in}
use Rattle.ae_state.specs.Right.{IsReason, of_value, of_rule, of_equation, IsRight}
use Rattle.ae_state.specs.Fitting.{FitsStore}
use Rattle.ae_state.specs.Marks.{FitsMark}
use Rattle.ae_state.specs.Stepping.{equation, equations_now, paired_now, IsInStep}
use Rattle.ae_state.specs.Complete.{IsOwnConflict}
use Rattle.ae_state.proofs.Growing.{said_more}
use Rattle.ae_state.proofs.Lasting.{marks_last}
use Rattle.ae_turns.specs.Leading.{Leads}
use Rattle.ae_turns.specs.Representing.{IsTaken, AreRepresentatives}
use Rattle.ae_turns.proofs.DroppedRules.{kept_in, entries_are}
use Rattle.ae_turns.proofs.Steps.{noted_none, legal_none}
use Rattle.ae_representatives.proofs.Taken.{seen_now, seen_all}
use Rattle.ae_representatives.proofs.MoreSteps.{with_steps, conflict_more}
use Rattle.ae_right_sides.specs.Inner.OtherRights.{HasOtherRights}
use Rattle.ae_right_sides.proofs.Lefts.{lefts_same, lefts_then, lefts_composed}
use Rattle.ae_right_sides.proofs.Grounded.{reasons_rest}

-- ---- none, and one time after another
pub rights_stay : (s : Stored) (o : Holding) → FitsStore o s → HasOtherRights s o o
rights_stay s o fits =
    record {
      others = refl;
      pairs = refl;
      queue = refl;
      next = refl;
      lefts = lefts_same (kept_in o.equations) (kept_in o.equations) (λ n. refl);
      lasts = λ shared then h. h;
      front = front_same o.justs;
      fits = fits;
      step = λ js h. h;
    }

pub rights_then : (s : Stored) (o p q : Holding) → HasOtherRights s o p → HasOtherRights s p q → HasOtherRights s o q
rights_then s o p q a b =
    record {
      others = b.others ∙ ap (λ (x : Holding). record x { equations = q.equations; justs = q.justs }) a.others;
      pairs = b.pairs ∙ a.pairs;
      queue = b.queue ∙ a.queue;
      next = b.next ∙ a.next;
      lefts = lefts_then (kept_in o.equations) (kept_in p.equations) (kept_in q.equations) a.lefts b.lefts;
      lasts = λ shared then h. b.lasts shared then (a.lasts shared then h);
      front = front_then o.justs p.justs q.justs a.front b.front;
      fits = b.fits;
      step = λ js h. b.step js (a.step js h);
    }

-- ---- all names have their values and representatives still
pub taken_still : (s : Stored) (o p : Holding) → HasOtherRights s o p → IsTaken o s → IsTaken p s
taken_still s o p h t = record { store = t.store; fits = h.fits; all = ap terms_now h.others ∙ t.all }

pub reps_still : (s : Stored) (o p : Holding) (reps : List ℕ) → HasOtherRights s o p → AreRepresentatives o reps → AreRepresentatives p reps
reps_still s o p reps h r = subst (λ (x : Holding). AreRepresentatives x reps) (sym h.others) (record { one_each = r.one_each; least = r.least })

-- ---- such a change is a step
module _ (s : Stored) (o p : Holding) (right : IsRight o) (h : HasOtherRights s o p) where
  abbrev changed : Holding
  changed = record o { equations = p.equations; justs = p.justs }

  marks_changed : (m : Mark) (then : Holding) → FitsMark o m then → FitsMark p m then
  marks_changed m then f =
      subst (λ (x : Holding). FitsMark x m then) (sym h.others)
      (marks_last o changed
      (record {
        values = λ shared c z. z;
        equations = h.lasts;
        assumed = λ root map z. z;
        said = λ root map z. z;
        signature = refl;
        shapes = ([], sym (append-nil o.shapes));
        justs = h.front;
        conflicts = ([], sym (append-nil o.conflicts));
      }) m then f)

  conflict_changed : (k : ℕ) → IsOwnConflict o k → IsOwnConflict p k
  conflict_changed k c =
      let d : IsOwnConflict (with_steps o p.justs) k = conflict_more o p.justs h.front right.steps k c in
      subst (λ (x : Holding). IsOwnConflict x k) (sym h.others) (record { conflict = d.conflict; at = d.at; is = d.is })

  pub rights_lead : (j : Noted) → Leads s o j p j
  rights_lead j =
      record {
        fits = h.fits;
        assumed = ap assumed_in h.others;
        noted = noted_none j;
        legal = λ x bound named may. legal_none x bound j.lines;
        marks = marks_changed;
        conflicts = conflict_changed;
      }

-- ---- steps behind, and the rules as they were or with one right side
module _ (s : Stored) (o : Holding) (t : IsTaken o s) (e : Equations) (steps : List Step) (front : IsFront o.justs steps) (fits : Fits s.signature (terms_in s) steps)
    (held : IsHeld s.signature (terms_in s) steps e) (pairs : e.pairs ≡ o.equations.pairs) (queue : e.queue ≡ o.equations.queue) where
  abbrev with_both : Holding
  with_both = record o { equations = e; justs = steps }

  right_now : IsRight o
  right_now = (t.fits).right

  right_after : ((id : ℕ) → IsReason with_both id → RestsOnAssumed (all_terms o) steps (present o.assumed) id) → IsRight with_both
  right_after grounded =
      record {
        entries = right_now.entries;
        within = right_now.within;
        closed = right_now.closed;
        steps = subst (λ (z : Signature × List Term). Fits z.0 z.1 steps) (sym (seen_all o s t)) fits;
        valued = right_now.valued;
        said = subst (λ (xs : List Step). AreSaid o.signature (terms_now o) xs o.values) (sym front.1) (said_more o.signature (terms_now o) o.justs front.0 o.values right_now.said);
        ruled = subst (λ (z : Signature × List Term). IsHeld z.0 z.1 steps e) (sym (seen_now o s t)) held;
        grounded = grounded;
        numbered = right_now.numbered;
        read = λ place a at.
            let r = right_now.read place a at in
            record { what = r.what; at = r.at; named = λ z h. r.named z (record { signature = h.signature; keeps = h.keeps }); says = λ z store h. r.says z store (record { signature = h.signature; keeps = h.keeps }) };
      }

  fits_after : IsRight with_both → FitsStore with_both s
  fits_after right = record { right = right; terms = record { signature = ((t.fits).terms).signature; keeps = ((t.fits).terms).keeps } }

  queue_reason : (id : ℕ) (w : Waiting) → Contains (waiting e.queue) w → w.step ≡ id → IsReason o id
  queue_reason id w c j = of_equation w (subst (λ (q : Queue). Contains (waiting q) w) queue c) j

  rules_step : (js : List Line) (rules : ℕ → Option RuleEntry) → AreRulesInStep o.signature (terms_now o) js rules (paired_now o) (equations_now o)
      → AreRulesInStep o.signature (terms_now o) js rules (λ n. partners e.pairs n) (map equation (waiting e.queue))
  rules_step js rules i =
      subst (λ (z : Pairs × Queue). AreRulesInStep o.signature (terms_now o) js rules (λ n. partners z.0 n) (map equation (waiting z.1))) (λ k. (sym pairs k, sym queue k)) i

  module _ (next : e.rules.next ≡ o.equations.rules.next) (lasts : EquationsLast o.equations e) where
    -- ---- the rules as they were
    module _ (same : (n : ℕ) → rule_at e.rules n ≡ rule_at o.equations.rules n) where
      same_reason : (id : ℕ) → IsReason with_both id → IsReason o id
      same_reason id (of_value says) = of_value says
      same_reason id (of_rule n rule at j) = of_rule n rule (sym (same n) ∙ at) j
      same_reason id (of_equation w c j) = queue_reason id w c j

      same_step : (js : List Line) → IsInStep o js → IsInStep with_both js
      same_step js i =
          record {
            valued = i.valued;
            solved = i.solved;
            ruled =
                rules_step js (entries_of e.rules)
                (subst (λ (rules : ℕ → Option RuleEntry). AreRulesInStep o.signature (terms_now o) js rules (paired_now o) (equations_now o)) (λ k n. entry_in (sym (same n) k)) i.ruled);
          }

      pub rights_same : HasOtherRights s o with_both
      rights_same =
          record {
            others = refl;
            pairs = pairs;
            queue = queue;
            next = next;
            lefts = lefts_same (kept_in o.equations) (kept_in e) same;
            lasts = lasts;
            front = front;
            fits = fits_after (right_after (λ id r. reasons_rest o right_now steps front id (same_reason id r)));
            step = same_step;
          }

    -- ---- one rule with another right side
    module _ (number : ℕ) (rule : Kept) (right : List ℕ) (just : ℕ) (h : IsComposed (kept_in o.equations) (kept_in e) number rule right just)
        (rests : RestsOnAssumed (all_terms o) steps (present o.assumed) just)
        (descends : (js : List Line) → IsInStep o js → DescendsIn o.signature (terms_now o) js rule.entry.symbol rule.entry.right right) where
      rule_rests : (id n : ℕ) (other : Kept) → rule_at e.rules n ≡ Some other → other.just ≡ id → Dec (n ≡ number) → RestsOnAssumed (all_terms o) steps (present o.assumed) id
      rule_rests id n other at j (no d) = reasons_rest o right_now steps front id (of_rule n other (sym (h.others n d) ∙ at) j)
      rule_rests id n other at j (yes q) =
          let now : with_right rule right just ≡ other = same_Some (with_right rule right just) other (sym h.is ∙ sym (ap (kept_in e) q) ∙ at) in
          subst (RestsOnAssumed (all_terms o) steps (present o.assumed)) (ap (λ (k : Kept). k.just) now ∙ j) rests

      one_rests : (id : ℕ) → IsReason with_both id → RestsOnAssumed (all_terms o) steps (present o.assumed) id
      one_rests id (of_value says) = reasons_rest o right_now steps front id (of_value says)
      one_rests id (of_rule n other at j) = rule_rests id n other at j (ℕ_discrete n number)
      one_rests id (of_equation w c j) = reasons_rest o right_now steps front id (queue_reason id w c j)

      one_step : (js : List Line) → IsInStep o js → IsInStep with_both js
      one_step js i =
          record {
            valued = i.valued;
            solved = i.solved;
            ruled =
                rules_step js (entries_of e.rules)
                (new_rights_keep o.signature (terms_now o) js (rules_now o) (entries_of e.rules) (paired_now o) (equations_now o)
                (composed_new o.signature (terms_now o) js number just rule right (kept_in o.equations) (kept_in e) (rules_now o) (entries_of e.rules) (entries_are o.equations) (entries_are e) h.there h.is h.others
                (descends js i)) i.ruled);
          }

      pub rights_composed : HasOtherRights s o with_both
      rights_composed =
          record {
            others = refl;
            pairs = pairs;
            queue = queue;
            next = next;
            lefts = lefts_composed (kept_in o.equations) (kept_in e) number rule right just h;
            lasts = lasts;
            front = front;
            fits = fits_after (right_after one_rests);
            step = one_step;
          }
