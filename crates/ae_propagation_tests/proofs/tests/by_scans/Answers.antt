use Rattle.std.proofs.Common.{List, sym, subst}
use Rattle.ae_explain.specs.declared.trail.Assigned.{Assigned}
use Rattle.ae_explain.specs.Trail.{IsLawful}
use Rattle.ae_propagation.proofs.Settling.{lawful_none}
use Rattle.ae_propagation_tests.proofs.tests.by_scans.Goals as goal

pub settle-requires : goal.settle-requires
settle-requires c = record { lawful = subst (λ (t : List Assigned). IsLawful t c.args.clauses.now) (sym c.new-trail.ensures.assigned) (lawful_none c.args.clauses.now) }
