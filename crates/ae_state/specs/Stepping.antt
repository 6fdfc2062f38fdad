-- When the lines that stand in a journal are in step with what is held.
use Rattle.std.specs.Prelude.{ℕ, List, map}
use Rattle.ae_journal.specs.declared.lines.Line.{Line}
use Rattle.ae_value_table.specs.Table.{values}
use Rattle.ae_equations.specs.declared.queue.Waiting.{Waiting}
use Rattle.ae_equations.specs.Queued.{waiting}
use Rattle.ae_equations.specs.Paired.{partners}
use Rattle.ae_name_lines.specs.InStep.{AreLineValues, SolvesBelow}
use Rattle.ae_rule_lines.specs.InStep.{AreRulesInStep, Waiting as Equation}
use Rattle.ae_state.specs.declared.holding.Holding.{Holding}
use Rattle.ae_state.specs.Names.{terms_now, rules_now}

-- an equation that waits, without the step that states it
abbrev pub equation : Waiting → Equation
equation w = record { symbol = w.symbol; left = w.left; right = w.right }

abbrev pub equations_now : Holding → List Equation
equations_now o = map equation (waiting o.equations.queue)

-- what the rule of each number was paired with
abbrev pub paired_now : Holding → ℕ → List ℕ
paired_now o n = partners o.equations.pairs n

-- the values are those that the lines make of the terms, the lines solve none but names that have values, and they are in step with the rules
pub record IsInStep (o : Holding) (js : List Line) : Type 0 where
  pub valued : AreLineValues o.signature (terms_now o) (values o.values) js
  pub solved : SolvesBelow o.values.taken js
  pub ruled : AreRulesInStep o.signature (terms_now o) js (rules_now o) (paired_now o) (equations_now o)
