use Rattle.std.proofs.Common.{drop}
use Rattle.ae_readers.proofs.Exactness.{exactly_by, same_read}
use Rattle.ae_rulereader.proofs.SymbolReading.{sides_are}
use Rattle.ae_rulereader.proofs.rules.read_sides.Goals as goal
use Rattle.ae_stategrammar.specs.Sides.{sides}

pub returns-clause-read : goal.returns-clause-read
returns-clause-read c = same_read c.args.text.now _ _ _ (sides_are c.args.tables.now.terms.signature.now (drop c.args.at c.args.text.now)) c.read_parts.ensures.read

pub returns-clause-exact : goal.returns-clause-exact
returns-clause-exact c = exactly_by (sides c.args.tables.now.terms.signature.now) _ (sides_are c.args.tables.now.terms.signature.now) c.args.text.now c.args.at _ c.read_parts.ensures.read
