-- Versions of what is held, and that they last.
use Rattle.std.specs.Prelude.{ℕ, ◌≡◌, ◌++◌, List}
use Rattle.ae_pmap.specs.Forest.{present, StandsFor as MapStandsFor}
use Rattle.ae_monoid.specs.Rules.{rule_at}
use Rattle.ae_monoid.specs.Versions.{StandsFor as RulesStandFor}
use Rattle.ae_equations.specs.declared.equations.Shared.{Shared}
use Rattle.ae_equations.specs.declared.pairs.Link.{Link}
use Rattle.ae_equations.specs.Paired.{partners}
use Rattle.ae_equations.specs.Queued.{waiting}
use Rattle.ae_equations.specs.Held.{Contents}
use Rattle.ae_equations.specs.Inner.Holding.{IsHolding}

-- the version fits what is held, and stands for what was held then
pub record StandsFor (c : Contents) (shared : Shared) (then : Contents) : Type 0 where
  pub rules : RulesStandFor c.rules shared.rules (λ n. rule_at then.rules n) then.rules.next
  pub heads : MapStandsFor c.pairs.heads shared.heads (present then.pairs.heads)
  pub links : (more : List Link) × (c.pairs.links ≡ then.pairs.links ++ more)
  pub places : MapStandsFor c.queue.places shared.places (present then.queue.places)
  pub next : shared.next ≡ then.queue.next
  pub held : IsHolding then

-- each version goes on standing for what was held
abbrev pub Lasts : Contents → Contents → Type 0
Lasts old new = (shared : Shared) (then : Contents) → StandsFor old shared then → StandsFor new shared then

-- the same is held
pub record IsAs (c then : Contents) : Type 0 where
  pub rules : (n : ℕ) → rule_at c.rules n ≡ rule_at then.rules n
  pub len : c.rules.next ≡ then.rules.next
  pub pairs : (n : ℕ) → partners c.pairs n ≡ partners then.pairs n
  pub waiting : waiting c.queue ≡ waiting then.queue
