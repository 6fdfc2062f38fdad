-- When there is no name, no rule and no literal.
use Rattle.std.specs.Prelude.{ℕ, [], ◌≡◌, None}
use Rattle.ae_linear.specs.Rows.{row_at}
use Rattle.ae_pmap.specs.Forest.{present}
use Rattle.ae_monoid.specs.Rules.{rule_at}
use Rattle.ae_equations.specs.Paired.{partners}
use Rattle.ae_equations.specs.Queued.{waiting}
use Rattle.ae_state.specs.declared.holding.Holding.{Holding}

-- nothing is held
pub record IsEmpty (o : Holding) : Type 0 where
  pub shapes : o.shapes ≡ []
  pub justs : o.justs ≡ []
  pub entries : o.values.entries ≡ []
  pub taken : o.values.taken ≡ 0
  pub rows : (n : ℕ) → row_at o.values.rows n ≡ None
  pub leaves : present o.values.leaves ≡ []
  pub rules : (n : ℕ) → rule_at o.equations.rules n ≡ None
  pub pairs : (n : ℕ) → partners o.equations.pairs n ≡ []
  pub waiting : waiting o.equations.queue ≡ []
  pub assumed : present o.assumed ≡ []
  pub next : o.next ≡ 0
