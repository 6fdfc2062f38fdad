use Rattle.std.proofs.Common.{subst}
use Rattle.ae_sat.specs.Inner.Kept.{IsKept}
use Rattle.ae_sat.proofs.propagator.settle_behind.Goals as goal

pub settle-requires-clause-quiet : goal.settle-requires-clause-quiet
settle-requires-clause-quiet g c = (subst (λ (o : _). IsKept o c.args.propagation.now.trail c.args.propagation.now.clauses) c.in-Some.is c.requires.kept).1
