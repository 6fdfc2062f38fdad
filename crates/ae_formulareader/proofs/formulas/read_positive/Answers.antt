use Rattle.std.proofs.Common.{drop}
use Rattle.ae_readers.proofs.Exactness.{exactly_by, same_read}
use Rattle.ae_readers.specs.Readers.{close_of}
use Rattle.ae_formulareader.specs.Formulas.{positive_code}
use Rattle.ae_formulareader.proofs.FormulaReading.{positive_is}
use Rattle.ae_formulareader.proofs.formulas.read_positive.Goals as goal

pub returns-clause-read : goal.returns-clause-read
returns-clause-read c = same_read c.args.text.now _ _ _ (positive_is c.args.tables.now.signature.now (close_of c.args.closing) (drop c.args.at c.args.text.now)) c.read_closed.ensures.read

pub returns-clause-exact : goal.returns-clause-exact
returns-clause-exact c =
    exactly_by (positive_code c.args.tables.now.signature.now (close_of c.args.closing)) _ (positive_is c.args.tables.now.signature.now (close_of c.args.closing)) c.args.text.now c.args.at _ c.read_closed.ensures.read
