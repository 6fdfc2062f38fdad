use Rattle.std.proofs.Common.{drop}
use Rattle.ae_prooftext.specs.Grammar.{proof_code}
use Rattle.ae_readers.proofs.Exactness.{exactly_by, same_read}
use Rattle.ae_proofreader.proofs.VersionReading.{proof_is}
use Rattle.ae_proofreader.proofs.proofs.read_proof_at.Goals as goal

pub returns-clause-read : goal.returns-clause-read
returns-clause-read c = same_read c.args.text.now _ _ _ (proof_is c.args.tables.now.signature.now (drop c.args.at c.args.text.now)) c.read_version.ensures.read

pub returns-clause-exact : goal.returns-clause-exact
returns-clause-exact c = exactly_by (proof_code c.args.tables.now.signature.now) _ (proof_is c.args.tables.now.signature.now) c.args.text.now c.args.at _ c.read_version.ensures.read
