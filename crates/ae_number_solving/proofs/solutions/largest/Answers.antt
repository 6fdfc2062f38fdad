use Rattle.ae_linear.proofs.Largest.{last_of}
use Rattle.ae_number_solving.proofs.solutions.largest.Goals as goal

pub returns-clause-some : goal.returns-clause-some
returns-clause-some c = last_of c.args.parts.now _ c.if-is_empty.ensures c.requires.rising c.requires.nonzero
