use Rattle.std.proofs.Common.{drop, arith}
use Rattle.ae_prooftext.specs.Grammar.{sort_code}
use Rattle.ae_readers.proofs.Exactness.{exactly_by, same_read}
use Rattle.ae_readers.specs.Readers.{close_of}
use Rattle.ae_termreader.proofs.SortReading.{sort_is, sorts_go_on, sorts_end, sorts_faulty}
use Rattle.ae_termreader.proofs.sorts.+read_sort.Goals as goal

pub read_sort-returns-clause-read : goal.read_sort-returns-clause-read
read_sort-returns-clause-read t c = same_read c.args.text.now _ _ _ (sort_is c.args.tables.now.signature.now (close_of c.args.closing) (drop c.args.at c.args.text.now)) c.read_by_byte.ensures.read

pub read_sort-returns-clause-exact : goal.read_sort-returns-clause-exact
read_sort-returns-clause-exact t c = exactly_by (sort_code c.args.tables.now.signature.now (close_of c.args.closing)) _ (sort_is c.args.tables.now.signature.now (close_of c.args.closing)) c.args.text.now c.args.at _ c.read_by_byte.ensures.read

pub read_sort_row-returns-in-Err-clause-read : goal.read_sort_row-returns-in-Err-clause-read
read_sort_row-returns-in-Err-clause-read t c =
    sorts_faulty c.args.tables.now.signature.now c.args.square c.side_of-closing.result c.side_of-closing.ensures c.args.text.now c.args.from c.values.at c.values.sorts c.values.invariant.2
    c.in-Err.fault c.in-Err.ensures.read

pub read_sort_row-returns-then-close-ne32-clause-read : goal.read_sort_row-returns-then-close-ne32-clause-read
read_sort_row-returns-then-close-ne32-clause-read t c =
    sorts_end c.args.tables.now.signature.now c.args.square c.side_of-closing.result c.side_of-closing.ensures c.args.text.now c.args.from c.values.at c.values.sorts c.values.invariant.2
    c.in-Ok.found.0 c.in-Ok.found.1 c.push.new.self c.in-Ok.ensures.read c.if-close-ne32.true c.in_default.ensures.ok

pub read_sort_row-values-preserved : goal.read_sort_row-values-preserved
read_sort_row-values-preserved t c =
    let low = c.values.invariant.0 in
    let ahead = c.in-Ok.ensures.ahead.0 in (
      omega arith,
      λ l. c.in-Ok.ensures.ahead.1,
      sorts_go_on c.args.tables.now.signature.now c.args.square c.side_of-closing.result c.side_of-closing.ensures c.args.text.now c.args.from c.values.at c.values.sorts c.values.invariant.2
          c.in-Ok.found.0 c.in-Ok.found.1 c.push.new.self c.in-Ok.ensures.read c.if-close-ne32.false c.in_default.ensures.ok,
    )
