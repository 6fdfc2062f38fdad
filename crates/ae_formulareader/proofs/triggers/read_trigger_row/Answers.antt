use Rattle.std.proofs.Common.{arith}
use Rattle.ae_formulareader.specs.Formulas.{trigger_code}
use Rattle.ae_formulareader.specs.Formulas.{trigger_rows}
use Rattle.ae_formulareader.proofs.FormulaReading.{trigger_turn}
use Rattle.ae_formulareader.proofs.RowSteps.{row_goes_on, row_ends, row_fails}
use Rattle.ae_formulareader.proofs.triggers.read_trigger_row.Goals as goal

pub returns-in-Err-clause-read : goal.returns-in-Err-clause-read
returns-in-Err-clause-read c =
    row_fails (trigger_rows c.args.tables.now.signature.now c.args.env.now) (trigger_code c.args.tables.now.signature.now c.args.env.now) (trigger_turn c.args.tables.now.signature.now c.args.env.now) c.args.text.now
    c.args.from c.values.at c.values.triggers c.values.invariant.2
    c.in-Err.fault c.in-Err.ensures.read

pub returns-then-close-ne32-clause-read : goal.returns-then-close-ne32-clause-read
returns-then-close-ne32-clause-read c =
    row_ends (trigger_rows c.args.tables.now.signature.now c.args.env.now) (trigger_code c.args.tables.now.signature.now c.args.env.now) (trigger_turn c.args.tables.now.signature.now c.args.env.now) c.args.text.now
    c.args.from c.values.at c.values.triggers c.values.invariant.2
    c.in-Ok.found.0 c.in-Ok.found.1 c.push.new.self c.in-Ok.ensures.read c.if-close-ne32.true c.in_default.ensures.ok

pub values-preserved : goal.values-preserved
values-preserved c =
    let low = c.values.invariant.0 in
    let ahead = c.in-Ok.ensures.ahead.0 in (
      omega arith,
      λ l. c.in-Ok.ensures.ahead.1,
      row_goes_on (trigger_rows c.args.tables.now.signature.now c.args.env.now) (trigger_code c.args.tables.now.signature.now c.args.env.now) (trigger_turn c.args.tables.now.signature.now c.args.env.now) c.args.text.now
          c.args.from c.values.at c.values.triggers c.values.invariant.2
          c.in-Ok.found.0 c.in-Ok.found.1 c.push.new.self c.in-Ok.ensures.read c.if-close-ne32.false c.in_default.ensures.ok,
    )
