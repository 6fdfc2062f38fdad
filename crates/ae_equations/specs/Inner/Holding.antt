-- What holds of all of it between the calls.
use Rattle.ae_equations.specs.Held.{Contents, ArePairsGiven}
use Rattle.ae_equations.specs.Inner.Chained.{AreNoted}
use Rattle.ae_equations.specs.Inner.Placed.{ArePlaced}

pub record IsHolding (c : Contents) : Type 0 where
  pub noted : AreNoted c.pairs
  pub given : ArePairsGiven c.pairs c.rules.next
  pub placed : ArePlaced c.queue
