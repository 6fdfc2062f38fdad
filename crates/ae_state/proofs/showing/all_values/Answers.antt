use Rattle.std.proofs.Common.{◌∙◌, arith}
use Rattle.ae_value_table.specs.Table.{values}
use Rattle.ae_state.proofs.Shown.{first_pushed, all_shown}
use Rattle.ae_state.proofs.showing.all_values.Goals as goal

pub loop-name-preserved : goal.loop-name-preserved
loop-name-preserved c =
    first_pushed (values c.args.held.now) c.loop-name.values c.push.new.self c.loop-name.name c.in_ok-value.field-0 c.loop-name.invariant c.in_ok-push.ensures.ok c.in_ok-value.ensures

pub returns : goal.returns
returns c = c.loop-name.invariant ∙ all_shown c.args.held.now c.loop-name.name (omega (arith, c.loop-name-test.false, c.loop-name.auto.name-end, c.len-name-end.ensures.len))
