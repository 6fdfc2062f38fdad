-- What a step of saturation keeps.
use Rattle.std.specs.Prelude.{ℕ, ◌≡◌}
use Rattle.ae_journal.specs.Noted.{Noted}
use Rattle.ae_journal.specs.Standing.{Setting}
use Rattle.ae_store.specs.Stores.{Stored}
use Rattle.ae_theory.specs.Names.{IsNamedBy}
use Rattle.ae_theory.specs.Noting.{HasNoted, NotesLegal, MayAll, literals}
use Rattle.ae_state.specs.declared.holding.Holding.{Holding}
use Rattle.ae_state.specs.declared.holding.Mark.{Mark}
use Rattle.ae_state.specs.Names.{assumed_in}
use Rattle.ae_state.specs.Fitting.{FitsStore}
use Rattle.ae_state.specs.Marks.{FitsMark}
use Rattle.ae_state.specs.Complete.{IsOwnConflict}

-- from `o` and a journal to `p` and the journal afterwards: the same literals are assumed; only lines of a theory were noted, each legal where the
-- assumed literals may stand; marks go on fitting, and conflicts stay
pub record Leads (s : Stored) (o : Holding) (before : Noted) (p : Holding) (after : Noted) : Type 0 where
  pub fits : FitsStore p s
  pub assumed : assumed_in p ≡ assumed_in o
  pub noted : HasNoted before after
  pub legal : (x : Setting) (bound : ℕ) → IsNamedBy x s before.lines → MayAll x (literals (assumed_in o)) before.lines → NotesLegal x bound before.lines after.lines
  pub marks : (m : Mark) (then : Holding) → FitsMark o m then → FitsMark p m then
  pub conflicts : (k : ℕ) → IsOwnConflict o k → IsOwnConflict p k

-- to stay is a step, and so are two steps
abbrev pub StayingLeads : Type 0
StayingLeads = (s : Stored) (o : Holding) (j : Noted) → FitsStore o s → Leads s o j o j

abbrev pub GoingOnLeads : Type 0
GoingOnLeads = (s : Stored) (o p q : Holding) (j k l : Noted) → Leads s o j p k → Leads s p k q l → Leads s o j q l
