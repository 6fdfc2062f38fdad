use Rattle.ae_prooftext.specs.Grammar.{proof_code}
use Rattle.ae_choices.proofs.WholeForms.{whole_memory}
use Rattle.ae_proofreader.proofs.proofs.read_proof.Goals as goal

pub returns-in-Err-clause-exact : goal.returns-in-Err-clause-exact
returns-in-Err-clause-exact c = whole_memory (proof_code c.args.signature.now) c.args.text.now
