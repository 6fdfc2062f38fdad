-- How it ends to take up what isn't met.
use Rattle.std.specs.Prelude.{ℕ, ◌<◌, ◌≡◌, Option, Some, None, Result, Ok, Err, OnOk}
use Rattle.ae_journal.specs.Journals.{live, counted_in}
use Rattle.ae_journal.specs.Noted.{Noted}
use Rattle.ae_journal.specs.declared.answers.WideAt.{WideAt}
use Rattle.ae_store.specs.Stores.{Stored}
use Rattle.ae_theory.specs.declared.theory.Fail.{Fail}
use Rattle.ae_theory.specs.declared.theory.Fail.TheVariants.{Steps as OutOfSteps, Number}
use Rattle.ae_literals.specs.declared.unmet.Unmet.{Unmet}
use Rattle.ae_whole_values.specs.Wholes.{AreAllWhole}
use Rattle.ae_state.specs.declared.holding.Holding.{Holding}
use Rattle.ae_state.specs.Stepping.{IsInStep}
use Rattle.ae_state.specs.Complete.{IsOwnConflict, AreWellSorted}
use Rattle.ae_turns.specs.declared.found.Found.{Found}
use Rattle.ae_turns.specs.declared.found.Found.TheVariants.{Nothing, Advanced, Conflict}
use Rattle.ae_turns.specs.Budget.{KeepsWithin}
use Rattle.ae_turns.specs.Ending.{MayBeWide}
use Rattle.ae_turns.specs.Leading.{Leads}
use Rattle.ae_turns.specs.Representing.{IsTaken}

-- what is held and the journal are right, and the result says what happened; nothing happens only where `why` holds
pub record IsTakenUp (s : Stored) (o : Holding) (before : Noted) (p : Holding) (after : Noted) (why : Type 0) (r : Result Found Fail) : Type 0 where
  pub leads : Leads s o before p after
  pub taken : OnOk r (IsTaken p s)
  pub step : OnOk r (IsInStep p (live after.lines))
  pub steps : r ≡ Err OutOfSteps → counted_in after.lines ≡ after.limit
  pub number : (wide : WideAt) → r ≡ Err (Number wide) → MayBeWide s o before.lines after.lines wide
  pub advanced : r ≡ Ok Advanced → counted_in before.lines < counted_in after.lines
  pub conflict : (k : ℕ) → r ≡ Ok (Conflict k) → IsOwnConflict p k
  pub budget : KeepsWithin Found s o before.lines r p after.lines
  pub stays : r ≡ Ok Nothing → p ≡ o
  pub lines : r ≡ Ok Nothing → after ≡ before
  pub reason : r ≡ Ok Nothing → why

-- why nothing happens: no value of an integer is a fraction, or the literals aren't well sorted
abbrev pub IsWhyNothing : Holding → Option Unmet → Type 0
IsWhyNothing o None = AreAllWhole o.values
IsWhyNothing o (Some u) = ¬ AreWellSorted o
