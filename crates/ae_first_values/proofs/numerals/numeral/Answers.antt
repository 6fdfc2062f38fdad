use Rattle.ae_math.specs.Fractions.{ratio}
use Rattle.ae_store.specs.Shapes.{shapes}
use Rattle.ae_store.specs.Terms.{terms}
use Rattle.ae_first_values.proofs.Limits.{as_read}
use Rattle.ae_first_values.proofs.Written.{number_written}
use Rattle.ae_first_values.proofs.numerals.numeral.Goals as goal

pub state_numeral-requires-clause-written : goal.state_numeral-requires-clause-written
state_numeral-requires-clause-written c =
    let s = c.args.store.now in
    number_written s.signature (terms (shapes s.nodes)) c.args.real c.args.name c.requires.name c.fraction-value.result c.fraction-value.ensures.normal (ratio (as_read c.args.top) (as_read c.args.bottom)) c.fraction-value.ensures.meaning

pub returns-clause-written : goal.returns-clause-written
returns-clause-written c =
    let s = c.args.store.now in
    number_written s.signature (terms (shapes s.nodes)) c.args.real c.args.name c.requires.name c.fraction-value.result c.fraction-value.ensures.normal (ratio (as_read c.args.top) (as_read c.args.bottom)) c.fraction-value.ensures.meaning
