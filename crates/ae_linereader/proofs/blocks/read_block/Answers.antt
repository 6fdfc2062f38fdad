use Rattle.std.proofs.Common.{drop}
use Rattle.ae_prooftext.specs.Grammar.{block_code}
use Rattle.ae_readers.proofs.Exactness.{exactly_by, same_read}
use Rattle.ae_linereader.proofs.LineReading.{block_is}
use Rattle.ae_linereader.proofs.blocks.read_block.Goals as goal

pub returns-clause-read : goal.returns-clause-read
returns-clause-read c = same_read c.args.text.now _ _ _ (block_is c.args.tables.now.signature.now (drop c.args.at c.args.text.now)) c.read_parts.ensures.read

pub returns-clause-exact : goal.returns-clause-exact
returns-clause-exact c = exactly_by (block_code c.args.tables.now.signature.now) _ (block_is c.args.tables.now.signature.now) c.args.text.now c.args.at _ c.read_parts.ensures.read
