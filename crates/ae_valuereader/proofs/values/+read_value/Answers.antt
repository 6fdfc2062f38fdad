use Rattle.std.proofs.Common.{drop, arith}
use Rattle.ae_readers.proofs.Exactness.{exactly_by, same_read}
use Rattle.ae_readers.specs.Readers.{close_of}
use Rattle.ae_valuereader.proofs.ValueReading.{value_is, values_go_on, values_end, values_faulty}
use Rattle.ae_valuereader.proofs.values.+read_value.Goals as goal
use Rattle.ae_valuetext.specs.Values.{value}

pub read_value-returns-clause-read : goal.read_value-returns-clause-read
read_value-returns-clause-read t c = same_read c.args.text.now _ _ _ (value_is (close_of c.args.closing) (drop c.args.at c.args.text.now)) c.read_by_byte.ensures.read

pub read_value-returns-clause-exact : goal.read_value-returns-clause-exact
read_value-returns-clause-exact t c = exactly_by (value (close_of c.args.closing)) _ (value_is (close_of c.args.closing)) c.args.text.now c.args.at _ c.read_by_byte.ensures.read

pub read_row-returns-in-Err-clause-read : goal.read_row-returns-in-Err-clause-read
read_row-returns-in-Err-clause-read t c = values_faulty c.args.text.now c.args.from c.values.at c.values.values c.values.invariant.2 c.in-Err.fault c.in-Err.ensures.read

pub read_row-returns-then-close-ne32-clause-read : goal.read_row-returns-then-close-ne32-clause-read
read_row-returns-then-close-ne32-clause-read t c =
    values_end c.args.text.now c.args.from c.values.at c.values.values c.values.invariant.2 c.in-Ok.found.0 c.in-Ok.found.1 c.push.new.self c.in-Ok.ensures.read c.if-close-ne32.true c.in_default.ensures.ok

pub read_row-values-preserved : goal.read_row-values-preserved
read_row-values-preserved t c =
    let low = c.values.invariant.0 in
    let ahead = c.in-Ok.ensures.ahead.0 in (
      omega arith,
      λ l. c.in-Ok.ensures.ahead.1,
      values_go_on c.args.text.now c.args.from c.values.at c.values.values c.values.invariant.2 c.in-Ok.found.0 c.in-Ok.found.1 c.push.new.self c.in-Ok.ensures.read c.if-close-ne32.false c.in_default.ensures.ok,
    )
