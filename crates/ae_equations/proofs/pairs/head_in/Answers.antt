use Rattle.std.proofs.Common.{sym}
use Rattle.ae_equations.proofs.pairs.head_in.Goals as goal

pub returns-in-Some-clause-within : goal.returns-in-Some-clause-within
returns-in-Some-clause-within c = c.requires.noted.within c.args.number c.in-Some.head.now (sym c.in-Some.ensures.value)
