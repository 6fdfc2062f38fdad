use Rattle.std.proofs.Common.{arith}
use Rattle.ae_codes.specs.Closers.{in_line, sizes}
use Rattle.ae_codes.specs.Numbers.{number}
use Rattle.ae_formulareader.proofs.RowSteps.{row_goes_on, row_ends, row_fails}
use Rattle.ae_linereader.specs.Rules.{number_rows}
use Rattle.ae_linereader.proofs.RuleReading.{number_turn}
use Rattle.ae_linereader.proofs.lists.read_number_row.Goals as goal

pub returns-in-Err-clause-read : goal.returns-in-Err-clause-read
returns-in-Err-clause-read c = row_fails number_rows (number (sizes in_line)) number_turn c.args.text.now c.args.from c.values.at c.values.numbers c.values.invariant.2 c.in-Err.fault c.in-Err.ensures.read

pub returns-then-close-ne32-clause-read : goal.returns-then-close-ne32-clause-read
returns-then-close-ne32-clause-read c =
    row_ends number_rows (number (sizes in_line)) number_turn c.args.text.now c.args.from c.values.at c.values.numbers c.values.invariant.2
    c.in-Ok.found.0 c.in-Ok.found.1 c.push.new.self c.in-Ok.ensures.read c.if-close-ne32.true c.in_default.ensures.ok

pub values-preserved : goal.values-preserved
values-preserved c =
    let low = c.values.invariant.0 in
    let ahead = c.in-Ok.ensures.ahead.0 in (
      omega arith,
      λ l. c.in-Ok.ensures.ahead.1,
      row_goes_on number_rows (number (sizes in_line)) number_turn c.args.text.now c.args.from c.values.at c.values.numbers c.values.invariant.2
          c.in-Ok.found.0 c.in-Ok.found.1 c.push.new.self c.in-Ok.ensures.read c.if-close-ne32.false c.in_default.ensures.ok,
    )
