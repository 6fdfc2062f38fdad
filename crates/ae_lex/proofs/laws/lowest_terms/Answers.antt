use Rattle.ae_lex.proofs.NumeralFacts.{lowest_same_value, lowest_coprime}
use Rattle.ae_lex.proofs.laws.lowest_terms.Goals as goal

pub returns-clause-same : goal.returns-clause-same
returns-clause-same c = lowest_same_value

pub returns-clause-coprime : goal.returns-clause-coprime
returns-clause-coprime c = lowest_coprime
