use Rattle.ae_constants.proofs.TableLaws.{forms_stay}
use Rattle.ae_constants.proofs.laws.forms_stay_exact.Goals as goal

pub returns : goal.returns
returns c = λ old new fs k e. forms_stay old new k fs e
