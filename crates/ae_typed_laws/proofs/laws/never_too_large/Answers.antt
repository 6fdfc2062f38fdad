use Rattle.ae_typed_laws.proofs.FilePlaces.{all_of_typing}
use Rattle.ae_typed_laws.proofs.laws.never_too_large.Goals as goal

pub returns : goal.returns
returns c = all_of_typing
