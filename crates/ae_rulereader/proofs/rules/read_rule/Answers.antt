use Rattle.std.proofs.Common.{drop}
use Rattle.ae_readers.proofs.Exactness.{exactly_by, same_read}
use Rattle.ae_rulereader.proofs.SymbolReading.{rule_is}
use Rattle.ae_rulereader.proofs.rules.read_rule.Goals as goal
use Rattle.ae_stategrammar.specs.States.{rule}

pub returns-clause-read : goal.returns-clause-read
returns-clause-read c = same_read c.args.text.now _ _ _ (rule_is c.args.tables.now.terms.signature.now (drop c.args.at c.args.text.now)) c.read_entry.ensures.read

pub returns-clause-exact : goal.returns-clause-exact
returns-clause-exact c = exactly_by (rule c.args.tables.now.terms.signature.now) _ (rule_is c.args.tables.now.terms.signature.now) c.args.text.now c.args.at _ c.read_entry.ensures.read
