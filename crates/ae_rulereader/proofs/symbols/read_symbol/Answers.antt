use Rattle.std.proofs.Common.{drop}
use Rattle.ae_readers.proofs.Exactness.{exactly_by, same_read}
use Rattle.ae_rulereader.proofs.SymbolReading.{symbol_is}
use Rattle.ae_rulereader.proofs.symbols.read_symbol.Goals as goal
use Rattle.ae_stategrammar.specs.Sides.{symbol}

pub returns-clause-read : goal.returns-clause-read
returns-clause-read c = same_read c.args.text.now _ _ _ (symbol_is c.args.tables.now.terms.signature.now (drop c.args.at c.args.text.now)) c.read_by_byte.ensures.read

pub returns-clause-exact : goal.returns-clause-exact
returns-clause-exact c = exactly_by (symbol c.args.tables.now.terms.signature.now) _ (symbol_is c.args.tables.now.terms.signature.now) c.args.text.now c.args.at _ c.read_by_byte.ensures.read
