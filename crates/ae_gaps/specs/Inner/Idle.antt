-- What is left where nothing was taken up.
use Rattle.std.specs.Prelude.{[], ◌≡◌}
use Rattle.ae_equations.specs.Queued.{waiting}
use Rattle.ae_journal.specs.Noted.{Noted}
use Rattle.ae_state.specs.declared.holding.Holding.{Holding}

-- steps came, and equations came and went; no equation waits, and no line was noted
pub record IsIdle (o : Holding) (before : Noted) (p : Holding) (after : Noted) : Type 0 where
  pub stays : p ≡ record o { equations = p.equations; justs = p.justs }
  pub rules : p.equations.rules ≡ o.equations.rules
  pub pairs : p.equations.pairs ≡ o.equations.pairs
  pub none : waiting p.equations.queue ≡ []
  pub lines : after ≡ before
