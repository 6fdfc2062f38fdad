use Rattle.ae_codes.specs.Closers.{by_blank}
use Rattle.std.specs.Prelude.{true, false}
use Rattle.ae_valuereader.proofs.FormReading.{long_least}
use Rattle.ae_valuereader.proofs.forms.read_denominator.Goals as goal

pub returns-clause-least : goal.returns-clause-least
returns-clause-least c = long_least true false by_blank c.args.text.now c.args.at (c.in_ok-size.size, c.in_ok-size.field-0-0-1) c.in_ok-size.next c.in_ok-size.ensures.exact
