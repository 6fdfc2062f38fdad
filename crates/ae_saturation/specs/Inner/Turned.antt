-- What a turn comes to.
use Rattle.std.specs.Prelude.{ℕ, ◌<◌, ◌≡◌, Result, Ok, Err, OnOk}
use Rattle.ae_journal.specs.Journals.{live, counted_in}
use Rattle.ae_journal.specs.Noted.{Noted}
use Rattle.ae_journal.specs.declared.answers.WideAt.{WideAt}
use Rattle.ae_store.specs.Stores.{Stored}
use Rattle.ae_theory.specs.declared.theory.Fail.{Fail}
use Rattle.ae_theory.specs.declared.theory.Fail.TheVariants.{Steps as OutOfSteps, Number}
use Rattle.ae_state.specs.declared.holding.Holding.{Holding}
use Rattle.ae_state.specs.Complete.{IsOwnConflict}
use Rattle.ae_state.specs.Stepping.{IsInStep}
use Rattle.ae_turns.specs.declared.found.Found.{Found}
use Rattle.ae_turns.specs.declared.found.Found.TheVariants.{Advanced, Conflict}
use Rattle.ae_turns.specs.Budget.{KeepsWithin}
use Rattle.ae_turns.specs.Ending.{MayBeWide}
use Rattle.ae_turns.specs.Leading.{Leads}
use Rattle.ae_turns.specs.Representing.{IsTaken}

-- a step leads on; without a refusal all names have values still and the lines are in step; each answer comes only where it may
pub record IsTurned (s : Stored) (o : Holding) (before : Noted) (found : Result Found Fail) (p : Holding) (after : Noted) : Type 0 where
  pub leads : Leads s o before p after
  pub taken : OnOk found (IsTaken p s)
  pub step : OnOk found (IsInStep p (live after.lines))
  pub steps : found ≡ Err OutOfSteps → counted_in after.lines ≡ after.limit
  pub number : (wide : WideAt) → found ≡ Err (Number wide) → MayBeWide s o before.lines after.lines wide
  pub advanced : found ≡ Ok Advanced → counted_in before.lines < counted_in after.lines
  pub conflict : (k : ℕ) → found ≡ Ok (Conflict k) → IsOwnConflict p k
  pub budget : KeepsWithin Found s o before.lines found p after.lines
