use Rattle.std.proofs.Common.{drop}
use Rattle.ae_readers.proofs.Exactness.{exactly_by, same_read}
use Rattle.ae_stategrammar.specs.Widths.{number_code}
use Rattle.ae_storyreader.proofs.WidthReading.{width_is}
use Rattle.ae_storyreader.proofs.widths.read_number_at.Goals as goal

pub returns-clause-read : goal.returns-clause-read
returns-clause-read c = same_read c.args.text.now _ _ _ (width_is c.args.tables.now.terms.signature.now (drop c.args.at c.args.text.now)) c.read_parts.ensures.read

pub returns-clause-exact : goal.returns-clause-exact
returns-clause-exact c = exactly_by (number_code c.args.tables.now.terms.signature.now) _ (width_is c.args.tables.now.terms.signature.now) c.args.text.now c.args.at _ c.read_parts.ensures.read
