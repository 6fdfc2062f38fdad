use Rattle.ae_bound_rest.proofs.Leaving.{none_left}
use Rattle.ae_bound_rest.proofs.laws.rest_leaves_nothing.Goals as goal

pub returns : goal.returns
returns c = λ x rows js ks a done all given. none_left x js rows ks a done all given
