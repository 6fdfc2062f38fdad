use Rattle.std.proofs.Common.{drop}
use Rattle.ae_prooftext.specs.Grammar.{formula_code}
use Rattle.ae_readers.proofs.Exactness.{exactly_by, same_read}
use Rattle.ae_readers.specs.Readers.{close_of}
use Rattle.ae_formulareader.proofs.FormulaReading.{formula_is}
use Rattle.ae_formulareader.proofs.formulas.+read_formula.Goals as goal

pub read_formula-returns-clause-read : goal.read_formula-returns-clause-read
read_formula-returns-clause-read t c = same_read c.args.text.now _ _ _ (formula_is c.args.tables.now.signature.now c.args.env.now (close_of c.args.closing) (drop c.args.at c.args.text.now)) c.read_by_byte.ensures.read

pub read_formula-returns-clause-exact : goal.read_formula-returns-clause-exact
read_formula-returns-clause-exact t c =
    exactly_by (formula_code c.args.tables.now.signature.now c.args.env.now (close_of c.args.closing)) _ (formula_is c.args.tables.now.signature.now c.args.env.now (close_of c.args.closing))
    c.args.text.now c.args.at _ c.read_by_byte.ensures.read
