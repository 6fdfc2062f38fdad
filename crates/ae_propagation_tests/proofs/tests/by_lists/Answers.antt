use Rattle.std.proofs.Common.{List, sym, subst}
use Rattle.ae_explain.specs.declared.trail.Assigned.{Assigned}
use Rattle.ae_explain.specs.Trail.{IsLawful}
use Rattle.ae_propagation.proofs.Settling.{lawful_none}
use Rattle.ae_propagation_tests.proofs.tests.by_lists.Goals as goal

pub settle_all-requires : goal.settle_all-requires
settle_all-requires g c = record {
  lawful = subst (λ (t : List Assigned). IsLawful t c.args.propagation.now.clauses) (sym c.requires.trail) (lawful_none c.args.propagation.now.clauses);
}
