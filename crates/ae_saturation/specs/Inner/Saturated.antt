-- What all turns together come to.
use Rattle.std.specs.Prelude.{ℕ, ◌≡◌, Result, Ok, Err, OnOk}
use Rattle.ae_journal.specs.Journals.{live, counted_in}
use Rattle.ae_journal.specs.Noted.{Noted}
use Rattle.ae_journal.specs.declared.answers.WideAt.{WideAt}
use Rattle.ae_store.specs.Stores.{Stored}
use Rattle.ae_theory.specs.declared.theory.Fail.{Fail}
use Rattle.ae_theory.specs.declared.theory.Fail.TheVariants.{Steps as OutOfSteps, Number}
use Rattle.ae_theory.specs.declared.theory.Outcome.{Outcome}
use Rattle.ae_theory.specs.declared.theory.Outcome.TheVariants.{Complete, Conflict}
use Rattle.ae_state.specs.declared.holding.Holding.{Holding}
use Rattle.ae_state.specs.Complete.{IsComplete, IsOwnConflict}
use Rattle.ae_state.specs.Stepping.{IsInStep}
use Rattle.ae_turns.specs.Budget.{KeepsWithin}
use Rattle.ae_turns.specs.Ending.{MayBeWide}
use Rattle.ae_turns.specs.Leading.{Leads}
use Rattle.ae_turns.specs.Representing.{IsTaken}

-- they lead on; without a refusal all names have values and the lines are in step; each answer comes only where it may
pub record IsSaturated (s : Stored) (o : Holding) (before : Noted) (found : Result Outcome Fail) (p : Holding) (after : Noted) : Type 0 where
  pub leads : Leads s o before p after
  pub taken : OnOk found (IsTaken p s)
  pub step : OnOk found (IsInStep p (live after.lines))
  pub complete : found ≡ Ok Complete → IsComplete p
  pub conflict : (k : ℕ) → found ≡ Ok (Conflict k) → IsOwnConflict p k
  pub steps : found ≡ Err OutOfSteps → counted_in after.lines ≡ after.limit
  pub number : (wide : WideAt) → found ≡ Err (Number wide) → MayBeWide s o before.lines after.lines wide
  pub budget : KeepsWithin Outcome s o before.lines found p after.lines
