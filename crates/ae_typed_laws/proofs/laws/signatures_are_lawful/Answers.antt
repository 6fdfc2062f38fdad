use Rattle.ae_typed_laws.proofs.DeclaredSignatures.{lawful_signature}
use Rattle.ae_typed_laws.proofs.laws.signatures_are_lawful.Goals as goal

pub returns : goal.returns
returns c = lawful_signature
