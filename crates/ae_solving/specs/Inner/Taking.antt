-- How the equation of two names is taken up.
use Rattle.std.specs.Prelude.{ℕ, ◌<◌, ◌≡◌, Result, Ok, Err, OnOk}
use Rattle.ae_journal.specs.Journals.{live, counted_in}
use Rattle.ae_journal.specs.Noted.{Noted}
use Rattle.ae_journal.specs.declared.answers.WideAt.{WideAt}
use Rattle.ae_state.specs.Complete.{IsOwnConflict}
use Rattle.ae_state.specs.Stepping.{IsInStep}
use Rattle.ae_state.specs.declared.holding.Holding.{Holding}
use Rattle.ae_store.specs.Stores.{Stored}
use Rattle.ae_theory.specs.declared.theory.Fail.{Fail}
use Rattle.ae_theory.specs.declared.theory.Fail.TheVariants.{Steps as OutOfSteps, Number}
use Rattle.ae_turns.specs.Budget.{KeepsWithin}
use Rattle.ae_turns.specs.Ending.{MayBeWide}
use Rattle.ae_turns.specs.Leading.{Leads}
use Rattle.ae_turns.specs.Representing.{IsTaken}
use Rattle.ae_turns.specs.declared.found.Found.{Found}
use Rattle.ae_turns.specs.declared.found.Found.TheVariants.{Nothing, Advanced, Conflict}

-- from `o` and the journal `j` to `p` and `k`, where the equation of two names is taken up
pub record HasTakenUp (s : Stored) (o : Holding) (j : Noted) (p : Holding) (k : Noted) (result : Result Found Fail) : Type 0 where
  pub leads : Leads s o j p k
  pub taken : OnOk result (IsTaken p s)
  pub step : OnOk result (IsInStep p (live k.lines))
  pub steps : result ≡ Err OutOfSteps → counted_in k.lines ≡ k.limit
  pub number : (wide : WideAt) → result ≡ Err (Number wide) → MayBeWide s o j.lines k.lines wide
  pub advanced : result ≡ Ok Advanced → counted_in j.lines < counted_in k.lines
  pub conflict : (n : ℕ) → result ≡ Ok (Conflict n) → IsOwnConflict p n
  pub never : result ≡ Ok Nothing → ⊥
  pub budget : KeepsWithin Found s o j.lines result p k.lines
  pub others : p ≡ record o { values = p.values; justs = p.justs; conflicts = p.conflicts }
