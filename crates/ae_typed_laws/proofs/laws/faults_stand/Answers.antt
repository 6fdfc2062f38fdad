use Rattle.ae_typed_laws.proofs.FilePlaces.{places_stand}
use Rattle.ae_typed_laws.proofs.laws.faults_stand.Goals as goal

pub returns : goal.returns
returns c = places_stand
