use Rattle.ae_bound_rest.proofs.Agreed.{agreed_kept}
use Rattle.ae_bound_rest.proofs.laws.agreement_is_kept.Goals as goal

pub returns : goal.returns
returns c = λ x rows rs js ks a e. agreed_kept x rows rs js ks a e
