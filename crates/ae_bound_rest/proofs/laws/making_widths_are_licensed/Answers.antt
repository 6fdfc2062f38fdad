use Rattle.ae_bound_rest.proofs.Dominated.{making_licensed}
use Rattle.ae_bound_rest.proofs.laws.making_widths_are_licensed.Goals as goal

pub returns : goal.returns
returns c = λ x rows js ks w a done settled all given p. making_licensed x js rows a done settled ks all given w p
