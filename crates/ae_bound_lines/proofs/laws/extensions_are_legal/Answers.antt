use Rattle.ae_bound_lines.proofs.Legal.{extended}
use Rattle.ae_bound_lines.proofs.laws.extensions_are_legal.Goals as goal

pub returns : goal.returns
returns c = λ x bound rows rs js ks st e. extended x bound rows rs js ks st e
