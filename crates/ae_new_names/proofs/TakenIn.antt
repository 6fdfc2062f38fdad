-- What is held when values and steps have come for more names.
use Rattle.std.specs.Prelude.{ℕ, ◌≤◌, List, [], ◌++◌, ◌≡◌, take, length, slice_get, Option, Some, None}
use Rattle.std.proofs.Common.{refl, sym, ap, ◌∙◌, subst}
use Rattle.std.proofs.lemmas.List.{append-nil}
use Rattle.std.proofs.lemmas.Option.{none-some}
use Rattle.ae_base.specs.Options.{or_else}
use Rattle.ae_base.proofs.AllOf.{all_weaker}
use Rattle.ae_core.specs.Sorts.{sort_of, is_closed_sort}
use Rattle.ae_core.proofs.SortLaws.{sort_in_bound}
use Rattle.ae_core.specs.declared.terms.Sort.{Sort}
use Rattle.ae_core.specs.declared.terms.Term.{Term, Bound}
use Rattle.ae_core.specs.declared.problems.AcSymbol.{AcSymbol}
use Rattle.ae_core.specs.declared.problems.Signature.{Signature}
use Rattle.ae_pmap.specs.Forest.{present}
use Rattle.ae_journal.specs.Noted.{Noted}
use Rattle.ae_store.specs.Growing.{IsFront}
use Rattle.ae_store.specs.Stores.{Stored}
use Rattle.ae_store.specs.Terms.{Keeps}
use Rattle.ae_store.proofs.StoreLaws.{name_term}
use Rattle.ae_just.specs.Steps.{Fits}
use Rattle.ae_just.proofs.KeptLaws.{symbol_kept}
use Rattle.ae_just.specs.declared.steps.Step.{Step}
use Rattle.ae_theory.specs.Names.{terms_in}
use Rattle.ae_state_steps.specs.ManySteps.{IsOfSort}
use Rattle.ae_multiset_steps.specs.Equating.{AreNamesOf}
use Rattle.ae_settled.specs.Valued.{AreValues}
use Rattle.ae_equations.specs.declared.queue.Waiting.{Waiting}
use Rattle.ae_equations.specs.Held.{Contents as Equations}
use Rattle.ae_equations.specs.Queued.{waiting}
use Rattle.ae_equation_turns.specs.Said.{IsWaitingSaid, IsHeld}
use Rattle.ae_rule_steps.specs.Said.{IsSaid}
use Rattle.ae_monoid.specs.declared.rules.Kept.{Kept}
use Rattle.ae_name_lines.specs.Closed.{AreClosed}
use Rattle.ae_patterns.specs.Patterns.{AreEntriesOf}
use Rattle.ae_value_table.specs.Table.{Contents}
use Rattle.ae_value_table.specs.Versions.{Lasts as ValuesLast}
use Rattle.ae_value_fitting.specs.Fitting.{system_in, AreSaid}
use Rattle.ae_value_fitting.specs.Sources.{AreFromValues}
use Rattle.ae_conflicts.specs.Saying.{RestsOnAssumed}
use Rattle.ae_state.specs.declared.holding.Holding.{Holding}
use Rattle.ae_state.specs.declared.holding.Mark.{Mark}
use Rattle.ae_state.specs.Names.{all_terms, terms_now}
use Rattle.ae_state.specs.Right.{IsReason, of_value, of_rule, of_equation, IsRight}
use Rattle.ae_state.specs.Fitting.{FitsStore}
use Rattle.ae_state.specs.Marks.{FitsMark}
use Rattle.ae_state.specs.Complete.{IsOwnConflict}
use Rattle.ae_state.proofs.Growing.{held_more}
use Rattle.ae_state.proofs.Lasting.{marks_last}
use Rattle.ae_state.proofs.Reasons.{reason_within}
use Rattle.ae_turns.specs.Leading.{Leads}
use Rattle.ae_turns.proofs.Steps.{noted_none, legal_none}
use Rattle.ae_representatives.proofs.MoreSteps.{rests_more, rests_by_values, conflict_more}

-- ---- more names
module _ (sig : Signature) (old new : List Term) (keeps : Keeps old new) where
  sort_kept : (s : Sort) (n : ℕ) → IsOfSort sig old s n → IsOfSort sig new s n
  sort_kept s n e = by_term (slice_get old n) refl
    where
      by_term : (o : Option Term) → slice_get old n ≡ o → IsOfSort sig new s n
      by_term None h =
          absurd (none-some s (sym (sort_in_bound sig (is_closed_sort sig) [] 0) ∙ ap (sort_of sig) (sym (ap (λ (o : Option Term). or_else o (Bound 0)) h)) ∙ e))
      by_term (Some t) h = ap (sort_of sig) (name_term new n t (keeps n t h) ∙ sym (name_term old n t h)) ∙ e

  names_kept : (u : AcSymbol) (names : List ℕ) → AreNamesOf sig old u names → AreNamesOf sig new u names
  names_kept u names a =
      record {
        sort = a.sort;
        symbol = a.symbol;
        of_names = symbol_kept old new keeps sig u.head u.sorts a.of_names;
        sorted = all_weaker (IsOfSort sig old a.sort) (IsOfSort sig new a.sort) (sort_kept a.sort) names a.sorted;
      }

  module _ (steps : List Step) where
    rule_kept : (rule : Kept) → IsSaid sig old steps rule → IsSaid sig new steps rule
    rule_kept rule a = record { names = names_kept rule.entry.symbol (rule.entry.left ++ rule.entry.right) a.names; states = a.states }

    equation_kept : (w : Waiting) → IsWaitingSaid sig old steps w → IsWaitingSaid sig new steps w
    equation_kept w a = record { names = names_kept w.symbol (w.left ++ w.right) a.names; left_some = a.left_some; right_some = a.right_some; states = a.states }

    pub held_kept : (e : Equations) → IsHeld sig old steps e → IsHeld sig new steps e
    held_kept e a =
        record {
          rules = record { each = λ n rule at. rule_kept rule ((a.rules).each n rule at) };
          waiting = all_weaker (IsWaitingSaid sig old steps) (IsWaitingSaid sig new steps) equation_kept (waiting e.queue) a.waiting;
        }

-- ---- values and steps that came
module _ (s : Stored) (o : Holding) (fits : FitsStore o s) (all : all_terms o ≡ terms_in s) (c : Contents) (js : List Step) (front : IsFront o.justs js) (steps : Fits s.signature (terms_in s) js)
    (entries : AreEntriesOf s.signature (terms_in s) c.entries) (valued : AreValues s.signature (system_in (take c.taken (terms_in s)) c)) (said : AreSaid s.signature (take c.taken (terms_in s)) js c)
    (sources : AreFromValues o.justs js o.values c []) (lasts : ValuesLast o.values c) (within : c.taken ≤ length c.entries) (closed : AreClosed s.signature (take c.taken (terms_in s)))
    (keeps : Keeps (take o.values.taken (terms_in s)) (take c.taken (terms_in s))) where
  abbrev pub taken_in : Holding
  taken_in = record o { values = c; justs = js }

  right : IsRight o
  right = fits.right

  seen : ◌≡◌ {A = Signature × List Term} (s.signature, terms_in s) (o.signature, all_terms o)
  seen = λ i. ((fits.terms).signature i, sym all i)

  keeps_now : Keeps (terms_now o) (terms_now taken_in)
  keeps_now = subst (λ (ts : List Term). Keeps (take o.values.taken ts) (take c.taken ts)) (sym all) keeps

  old_rests : (id : ℕ) → IsReason o id → RestsOnAssumed (all_terms o) js (present o.assumed) id
  old_rests id r = rests_more o js front right.steps id (reason_within o right id r) (right.grounded id r)

  each_rests : (id : ℕ) → IsReason taken_in id → RestsOnAssumed (all_terms o) js (present o.assumed) id
  each_rests id (of_value says) = rests_by_values o js right id (sources.each id says)
  each_rests id (of_rule n rule at j) = old_rests id (of_rule n rule at j)
  each_rests id (of_equation w at j) = old_rests id (of_equation w at j)

  right_now : IsRight taken_in
  right_now =
      record {
        entries = subst (λ (z : Signature × List Term). AreEntriesOf z.0 z.1 c.entries) seen entries;
        within = within;
        closed = subst (λ (z : Signature × List Term). AreClosed z.0 (take c.taken z.1)) seen closed;
        steps = subst (λ (z : Signature × List Term). Fits z.0 z.1 js) seen steps;
        valued = subst (λ (z : Signature × List Term). AreValues z.0 (system_in (take c.taken z.1) c)) seen valued;
        said = subst (λ (z : Signature × List Term). AreSaid z.0 (take c.taken z.1) js c) seen said;
        ruled =
            held_kept o.signature (terms_now o) (terms_now taken_in) keeps_now js o.equations
            (subst (λ (xs : List Step). IsHeld o.signature (terms_now o) xs o.equations) (sym front.1) (held_more o.signature (terms_now o) o.justs front.0 o.equations right.ruled));
        grounded = each_rests;
        numbered = right.numbered;
        read = λ place a at.
            let r = right.read place a at in
            record { what = r.what; at = r.at; named = λ z h. r.named z (record { signature = h.signature; keeps = h.keeps }); says = λ z store h. r.says z store (record { signature = h.signature; keeps = h.keeps }) };
      }

  pub fits_now : FitsStore taken_in s
  fits_now = record { right = right_now; terms = record { signature = (fits.terms).signature; keeps = (fits.terms).keeps } }

  marks_now : (m : Mark) (then : Holding) → FitsMark o m then → FitsMark taken_in m then
  marks_now m then h =
      marks_last o taken_in
      (record {
        values = lasts;
        equations = λ shared d z. z;
        assumed = λ root map z. z;
        said = λ root map z. z;
        signature = refl;
        shapes = ([], sym (append-nil o.shapes));
        justs = front;
        conflicts = ([], sym (append-nil o.conflicts));
      }) m then h

  conflict_now : (k : ℕ) → IsOwnConflict o k → IsOwnConflict taken_in k
  conflict_now k h = let d = conflict_more o js front right.steps k h in record { conflict = d.conflict; at = d.at; is = d.is }

  pub taken_leads : (j : Noted) → Leads s o j taken_in j
  taken_leads j =
      record {
        fits = fits_now;
        assumed = refl;
        noted = noted_none j;
        legal = λ x bound named may. legal_none x bound j.lines;
        marks = marks_now;
        conflicts = conflict_now;
      }
