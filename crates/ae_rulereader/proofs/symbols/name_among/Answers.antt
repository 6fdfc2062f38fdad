use Rattle.std.proofs.Common.{drop}
use Rattle.ae_readers.proofs.Exactness.{same_read}
use Rattle.ae_rulereader.proofs.SymbolLists.{blank_names}
use Rattle.ae_rulereader.proofs.symbols.name_among.Goals as goal

pub returns-clause-read : goal.returns-clause-read
returns-clause-read c = same_read c.args.text.now _ _ _ (blank_names c.args.words.now (drop c.args.at c.args.text.now)) c.read_name.ensures.read
