-- Turns behind other steps.
use Rattle.std.specs.Prelude.{ℕ, ◌+◌, ◌≤◌, List, ◌≡◌, Result, Ok, Err}
use Rattle.std.proofs.Common.{refl, sym, ap, ◌∙◌, subst, arith}
use Rattle.std.specs.declared.alloc.AllocError.{AllocError}
use Rattle.ae_journal.specs.Journals.{live, counted_in}
use Rattle.ae_journal.specs.Noted.{Noted}
use Rattle.ae_journal.specs.declared.answers.WideAt.{WideAt}
use Rattle.ae_journal.specs.declared.lines.Line.{Line}
use Rattle.ae_journal.proofs.Counting.{counted-append}
use Rattle.ae_store.specs.Stores.{Stored}
use Rattle.ae_theory.specs.Names.{IsNamedBy}
use Rattle.ae_theory.specs.Noting.{MayAll, literals}
use Rattle.ae_theory.specs.Tagged.{Tagged}
use Rattle.ae_theory.specs.declared.theory.Fail.{Fail}
use Rattle.ae_theory.specs.declared.theory.Fail.TheVariants.{Steps as OutOfSteps, Number, Memory}
use Rattle.ae_theory.specs.declared.theory.Outcome.{Outcome}
use Rattle.ae_theory.specs.declared.theory.Outcome.TheVariants.{Complete, Conflict as Contradicted}
use Rattle.ae_state.specs.declared.holding.Holding.{Holding}
use Rattle.ae_state.specs.Names.{assumed_in}
use Rattle.ae_state.specs.Complete.{IsComplete}
use Rattle.ae_state.specs.Stepping.{IsInStep}
use Rattle.ae_turns.specs.declared.found.Found.{Found}
use Rattle.ae_turns.specs.declared.found.Found.TheVariants.{Nothing, Conflict}
use Rattle.ae_turns.specs.Budget.{Spends}
use Rattle.ae_turns.specs.Ending.{MayBeWide}
use Rattle.ae_turns.specs.Leading.{Leads}
use Rattle.ae_turns.specs.Representing.{IsTaken}
use Rattle.ae_turns.proofs.Budgets.{spends_nothing, within_still, within_then, within_handed_on}
use Rattle.ae_turns.proofs.Steps.{none_back, named_more, may_all_more, staying_leads, going_on_leads}
use Rattle.ae_saturation.specs.Inner.Turned.{IsTurned}
use Rattle.ae_saturation.specs.Inner.Saturated.{IsSaturated}

-- ---- between two turns
pub record IsUnderWay (s : Stored) (o : Holding) (before : Noted) (p : Holding) (after : Noted) : Type 0 where
  pub leads : Leads s o before p after
  pub taken : IsTaken p s
  pub step : IsInStep p (live after.lines)
  pub spent : Spends s o before.lines p after.lines

pub under_way_first : (s : Stored) (o : Holding) (j : Noted) → IsTaken o s → IsInStep o (live j.lines) → IsUnderWay s o j o j
under_way_first s o j t step = record { leads = staying_leads s o j t.fits; taken = t; step = step; spent = spends_nothing s o o j.lines j.lines refl (λ n h. h) }

-- ---- what doesn't come for want of memory
no_steps : {A : Type 0} (e : AllocError) → ◌≡◌ {A = Result A Fail} (Err (Memory e)) (Err OutOfSteps) → ⊥
no_steps e h = cc h

no_number : {A : Type 0} (e : AllocError) (wide : WideAt) → ◌≡◌ {A = Result A Fail} (Err (Memory e)) (Err (Number wide)) → ⊥
no_number e wide h = cc h

same_fail : {A : Type 0} (e f : Fail) → ◌≡◌ {A = Result A Fail} (Err e) (Err f) → e ≡ f
same_fail e f h = cc h

module _ (s : Stored) (o p : Holding) (j k : Noted) (first : Leads s o j p k) where
  -- ---- after a step that leads on
  -- a width that is licensed after the next step is so after both
  pub wide_then : (after : List Line) (wide : WideAt) → MayBeWide s p k.lines after wide → MayBeWide s o j.lines after wide
  wide_then after wide w x named may =
      let at = (first.noted).is in
      w x (subst (IsNamedBy x s) (sym at) (named_more x s j.lines (first.noted).added named))
      (subst (λ (y : List Tagged × List Line). MayAll x (literals y.0) y.1) (λ i. (sym first.assumed i, sym at i))
      (may_all_more x (literals (assumed_in o)) j.lines (first.noted).added (none_back (first.noted).added (first.noted).theory) may))

  -- no counted line goes
  pub counted_then : counted_in j.lines ≤ counted_in k.lines
  counted_then =
      let e : counted_in k.lines ≡ counted_in j.lines + counted_in (first.noted).added = ap counted_in (first.noted).is ∙ counted-append j.lines (first.noted).added in
      omega (arith, e)

  pub then_turned : Spends s o j.lines p k.lines → (found : Result Found Fail) (q : Holding) (l : Noted) → IsTurned s p k found q l → IsTurned s o j found q l
  then_turned spent found q l t =
      record {
        leads = going_on_leads s o p q j k l first t.leads;
        taken = t.taken;
        step = t.step;
        steps = t.steps;
        number = λ wide e. wide_then l.lines wide (t.number wide e);
        advanced = λ e. omega (arith, counted_then, t.advanced e);
        conflict = t.conflict;
        budget = within_then Found s o p q j.lines k.lines l.lines found spent t.budget;
      }

  pub then_saturated : Spends s o j.lines p k.lines → (found : Result Outcome Fail) (q : Holding) (l : Noted) → IsSaturated s p k found q l → IsSaturated s o j found q l
  then_saturated spent found q l t =
      record {
        leads = going_on_leads s o p q j k l first t.leads;
        taken = t.taken;
        step = t.step;
        complete = t.complete;
        conflict = t.conflict;
        steps = t.steps;
        number = λ wide e. wide_then l.lines wide (t.number wide e);
        budget = within_then Outcome s o p q j.lines k.lines l.lines found spent t.budget;
      }

  -- ---- for want of memory
  pub no_memory_turned : counted_in k.lines ≡ counted_in j.lines → (e : AllocError) → IsTurned s o j (Err (Memory e)) p k
  no_memory_turned same e =
      record {
        leads = first;
        taken = tt;
        step = tt;
        steps = λ h. absurd (no_steps e h);
        number = λ wide h. absurd (no_number e wide h);
        advanced = λ h. absurd (cc h);
        conflict = λ n h. absurd (cc h);
        budget = within_still s o p j.lines k.lines same Found (Err (Memory e)) tt (λ h. no_steps e h);
      }

  pub no_memory_saturated : counted_in k.lines ≡ counted_in j.lines → (e : AllocError) → IsSaturated s o j (Err (Memory e)) p k
  no_memory_saturated same e =
      record {
        leads = first;
        taken = tt;
        step = tt;
        complete = λ h. absurd (cc h);
        conflict = λ n h. absurd (cc h);
        steps = λ h. absurd (no_steps e h);
        number = λ wide h. absurd (no_number e wide h);
        budget = within_still s o p j.lines k.lines same Outcome (Err (Memory e)) tt (λ h. no_steps e h);
      }

-- ---- refused before the first turn
pub refused_first : (s : Stored) (o p : Holding) (j : Noted) (e : Fail) → Leads s o j p j → (e ≡ OutOfSteps → ⊥) → ((wide : WideAt) → e ≡ Number wide → MayBeWide s o j.lines j.lines wide) → IsSaturated s o j (Err e) p j
refused_first s o p j e leads full wide =
    record {
      leads = leads;
      taken = tt;
      step = tt;
      complete = λ h. absurd (cc h);
      conflict = λ n h. absurd (cc h);
      steps = λ h. absurd (full (same_fail e OutOfSteps h));
      number = λ w h. wide w (same_fail e (Number w) h);
      budget = within_still s o p j.lines j.lines refl Outcome (Err e) tt (λ h. full (same_fail e OutOfSteps h));
    }

-- ---- the last turn
module _ (s : Stored) (o p : Holding) (j k : Noted) where
  pub refused_last : (e : Fail) → IsTurned s o j (Err e) p k → IsSaturated s o j (Err e) p k
  refused_last e t =
      record {
        leads = t.leads;
        taken = tt;
        step = tt;
        complete = λ h. absurd (cc h);
        conflict = λ n h. absurd (cc h);
        steps = λ h. t.steps (ap (λ (f : Fail). Err f) (same_fail e OutOfSteps h));
        number = λ wide h. t.number wide (ap (λ (f : Fail). Err f) (same_fail e (Number wide) h));
        budget = within_handed_on Found Outcome s o p j.lines k.lines e t.budget;
      }

  pub complete_last : IsTurned s o j (Ok Nothing) p k → IsComplete p → IsSaturated s o j (Ok Complete) p k
  complete_last t complete =
      record {
        leads = t.leads;
        taken = t.taken;
        step = t.step;
        complete = λ h. complete;
        conflict = λ n h. absurd (cc h);
        steps = λ h. absurd (cc h);
        number = λ wide h. absurd (cc h);
        budget = record { most = t.budget.most; left = t.budget.left; fewer = λ h. absurd (cc h) };
      }

  pub conflict_last : (n : ℕ) → IsTurned s o j (Ok (Conflict n)) p k → IsSaturated s o j (Ok (Contradicted n)) p k
  conflict_last n t =
      record {
        leads = t.leads;
        taken = t.taken;
        step = t.step;
        complete = λ h. absurd (cc h);
        conflict = λ m h. t.conflict m (same_number n m h);
        steps = λ h. absurd (cc h);
        number = λ wide h. absurd (cc h);
        budget = record { most = t.budget.most; left = t.budget.left; fewer = λ h. absurd (cc h) };
      }
    where
      same_number : (n m : ℕ) → ◌≡◌ {A = Result Outcome Fail} (Ok (Contradicted n)) (Ok (Contradicted m)) → ◌≡◌ {A = Result Found Fail} (Ok (Conflict n)) (Ok (Conflict m))
      same_number n m h = let e : n ≡ m = cc h in ap (λ (i : ℕ). Ok (Conflict i)) e
