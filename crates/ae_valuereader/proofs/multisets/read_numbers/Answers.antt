use Rattle.std.proofs.Common.{arith}
use Rattle.ae_valuereader.proofs.MultisetReading.{risen_begin, risen_faulty, risen_end, risen_on}
use Rattle.ae_valuereader.proofs.multisets.read_numbers.Goals as goal

pub numbers-init : goal.numbers-init
numbers-init c = (omega arith, λ l. l, risen_begin c.args.text.now c.args.from c.new-numbers.result c.new-numbers.ensures)

pub returns-in-Err-clause-read : goal.returns-in-Err-clause-read
returns-in-Err-clause-read c = risen_faulty c.args.text.now c.args.from c.numbers.low c.numbers.at c.numbers.numbers c.numbers.invariant.2 c.in-Err.fault c.in-Err.ensures.read

pub returns-then-close-ne32-clause-read : goal.returns-then-close-ne32-clause-read
returns-then-close-ne32-clause-read c =
    risen_end c.args.text.now c.args.from c.numbers.low c.numbers.at c.numbers.numbers c.numbers.invariant.2 c.in-Ok.found.0 c.in-Ok.found.1 c.push.new.self c.in-Ok.ensures.read c.if-close-ne32.true c.in_default.ensures.ok

pub numbers-preserved : goal.numbers-preserved
numbers-preserved c =
    let low = c.numbers.invariant.0 in
    let ahead = c.in-Ok.ensures.ahead.0 in (
      omega arith,
      λ l. c.in-Ok.ensures.ahead.1,
      risen_on c.args.text.now c.args.from c.numbers.low c.numbers.at c.numbers.numbers c.numbers.invariant.2
          c.in-Ok.found.0 c.in-Ok.found.1 c.push.new.self c.in-Ok.ensures.read c.if-close-ne32.false c.in-Ok.ensures.closed c.in_default.ensures.ok,
    )
