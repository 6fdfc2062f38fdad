-- Marks of what was held.
use Rattle.std.specs.Prelude.{◌≡◌}
use Rattle.ae_pmap.specs.Forest.{present, StandsFor as MapStandsFor}
use Rattle.ae_store.specs.Growing.{IsFront}
use Rattle.ae_value_table.specs.Versions.{StandsFor as ValuesStandFor}
use Rattle.ae_equations.specs.Versions.{StandsFor as EquationsStandFor}
use Rattle.ae_state.specs.declared.holding.Holding.{Holding}
use Rattle.ae_state.specs.declared.holding.Mark.{Mark}
use Rattle.ae_state.specs.Right.{IsRight}

-- the mark fits what is held, and stands for what was held then, which was right; names, steps and conflicts were the first of those of now
pub record FitsMark (o : Holding) (m : Mark) (then : Holding) : Type 0 where
  pub values : ValuesStandFor o.values m.values then.values
  pub equations : EquationsStandFor o.equations m.equations then.equations
  pub assumed : MapStandsFor o.assumed m.assumed (present then.assumed)
  pub said : MapStandsFor o.said m.said (present then.said)
  pub next : m.next ≡ then.next
  pub signature : o.signature ≡ then.signature
  pub shapes : IsFront then.shapes o.shapes
  pub justs : IsFront then.justs o.justs
  pub conflicts : IsFront then.conflicts o.conflicts
  pub right : IsRight then
