-- What is held after going back to a mark.
use Rattle.std.specs.Prelude.{List, ◌≡◌}
use Rattle.ae_num.specs.declared.forms.Value.{Value}
use Rattle.ae_pmap.specs.Forest.{present}
use Rattle.ae_value_table.specs.Table.{values as values_of}
use Rattle.ae_value_table.specs.Versions.{IsAs as ValuesAs}
use Rattle.ae_equations.specs.Versions.{IsAs as EquationsAs}
use Rattle.ae_state.specs.declared.holding.Holding.{Holding}

-- what went back stands as it was then, and what grows as it is
pub record IsBack (o new then : Holding) : Type 0 where
  pub values : ValuesAs new.values then.values
  pub values_are : ◌≡◌ {A = List Value} (values_of new.values) (values_of then.values)
  pub entries : new.values.entries ≡ o.values.entries
  pub equations : EquationsAs new.equations then.equations
  pub assumed : present new.assumed ≡ present then.assumed
  pub said : present new.said ≡ present then.said
  pub next : new.next ≡ then.next
  pub signature : new.signature ≡ o.signature
  pub shapes : new.shapes ≡ o.shapes
  pub justs : new.justs ≡ o.justs
  pub conflicts : new.conflicts ≡ o.conflicts
