use Rattle.ae_bound_rest.proofs.Ending.{rest_legal, rest_width}
use Rattle.ae_bound_rest.proofs.laws.rest_is_legal.Goals as goal

pub returns-clause-lines : goal.returns-clause-lines
returns-clause-lines c = λ x bound rows js ks a done n. rest_legal x bound rows js ks a done n

pub returns-clause-widths : goal.returns-clause-widths
returns-clause-widths c = λ x rows js ks w a done d. rest_width x rows js ks w a done d
