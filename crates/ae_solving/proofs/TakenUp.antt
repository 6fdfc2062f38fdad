-- The equation of two names that is taken up: after more steps, and where it is refused.
use Rattle.std.specs.Prelude.{List, ◌≡◌, Result, Err, IsErrAnd}
use Rattle.std.proofs.Common.{refl, sym, ap, ◌∙◌, subst}
use Rattle.std.proofs.lemmas.Result.{err_from_is_err_and}
use Rattle.std.specs.declared.alloc.AllocError.{AllocError}
use Rattle.ae_journal.specs.Noted.{Noted}
use Rattle.ae_just.specs.Steps.{Fits}
use Rattle.ae_just.specs.declared.steps.Step.{Step}
use Rattle.ae_solving.specs.Inner.Taking.{HasTakenUp}
use Rattle.ae_state.specs.declared.holding.Holding.{Holding}
use Rattle.ae_store.specs.Growing.{IsFront}
use Rattle.ae_store.specs.Stores.{Stored}
use Rattle.ae_theory.specs.Names.{terms_in}
use Rattle.ae_theory.specs.declared.theory.Fail.{Fail}
use Rattle.ae_theory.specs.declared.theory.Fail.TheVariants.{Memory}
use Rattle.ae_turns.specs.Leading.{Leads}
use Rattle.ae_turns.specs.Representing.{IsTaken}
use Rattle.ae_turns.specs.declared.found.Found.{Found}
use Rattle.ae_turns.proofs.Budgets.{within_still}
use Rattle.ae_turns.proofs.Steps.{going_on_leads, legal_none, noted_none}
use Rattle.ae_value_turns.specs.Renewed.{renewed}
use Rattle.ae_value_turns.proofs.RenewedValues.{leads_after, more_steps}

module _ (o : Holding) (s : Stored) (t : IsTaken o s) (steps : List Step) (front : IsFront o.justs steps) (fits : Fits s.signature (terms_in s) steps) where
  abbrev longer : Holding
  longer = renewed o o.values steps

  -- more steps, with the journal as it was
  pub steps_lead : (j : Noted) → Leads s o j longer j
  steps_lead j = leads_after o s t o.values steps (more_steps o s t steps front fits) j j (noted_none j) (λ x bound named may. legal_none x bound j.lines)

  -- and then the equation
  pub taken_later : (j : Noted) (p : Holding) (k : Noted) (r : Result Found Fail) → HasTakenUp s longer j p k r → HasTakenUp s o j p k r
  taken_later j p k r h =
      record {
        leads = going_on_leads s o longer p j j k (steps_lead j) h.leads;
        taken = h.taken;
        step = h.step;
        steps = h.steps;
        number = h.number;
        advanced = h.advanced;
        conflict = h.conflict;
        never = h.never;
        budget = record { most = h.budget.most; left = h.budget.left; fewer = h.budget.fewer };
        others = h.others;
      }

  -- a refusal of memory
  refused : (j : Noted) (e : AllocError) → HasTakenUp s o j longer j (Err (Memory e))
  refused j e =
      record {
        leads = steps_lead j;
        taken = tt;
        step = tt;
        steps = λ z. absurd (cc z);
        number = λ wide z. absurd (cc z);
        advanced = λ z. absurd (cc z);
        conflict = λ n z. absurd (cc z);
        never = λ z. cc z;
        budget = within_still s o longer j.lines j.lines refl Found (Err (Memory e)) tt (λ z. cc z);
        others = refl;
      }

  pub steps_refused : (j : Noted) (r : Result Found Fail) (e : AllocError) → IsErrAnd r (λ x. x ≡ Memory e) → HasTakenUp s o j longer j r
  steps_refused j r e h = let p = err_from_is_err_and r h in subst (HasTakenUp s o j longer j) (sym (p.1 ∙ ap Err p.2)) (refused j e)
