use Rattle.std.proofs.Common.{take, sym, subst}
use Rattle.ae_propagation.specs.Contents.{Contents}
use Rattle.ae_propagation.specs.Watched.{AreQuietBy}
use Rattle.ae_propagation.proofs.propagation.Propagation.settle.Goals as goal

pub settle_from-requires-clause-quiet : goal.settle_from-requires-clause-quiet
settle_from-requires-clause-quiet g c = subst (λ (v : Contents). AreQuietBy (take c.args.from v.trail) v.trail v.clauses) (sym c.self.view_is) c.requires.quiet
