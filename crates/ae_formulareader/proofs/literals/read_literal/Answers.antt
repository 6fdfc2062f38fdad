use Rattle.std.proofs.Common.{drop}
use Rattle.ae_readers.proofs.Exactness.{exactly_by, same_read}
use Rattle.ae_readers.specs.Readers.{close_of}
use Rattle.ae_formulareader.specs.Literals.{literal_code}
use Rattle.ae_formulareader.proofs.LiteralReading.{literal_is}
use Rattle.ae_formulareader.proofs.literals.read_literal.Goals as goal

pub returns-clause-read : goal.returns-clause-read
returns-clause-read c = same_read c.args.text.now _ _ _ (literal_is c.args.tables.now.signature.now (close_of c.args.closing) (drop c.args.at c.args.text.now)) c.read_signed.ensures.read

pub returns-clause-exact : goal.returns-clause-exact
returns-clause-exact c =
    exactly_by (literal_code c.args.tables.now.signature.now (close_of c.args.closing)) _ (literal_is c.args.tables.now.signature.now (close_of c.args.closing)) c.args.text.now c.args.at _ c.read_signed.ensures.read
