use Rattle.std.proofs.Common.{List, sym, subst}
use Rattle.ae_core.specs.declared.proofs.ClauseLine.{ClauseLine}
use Rattle.ae_rules.specs.Clauses.{Clause}
use Rattle.ae_first_clauses.specs.Inner.Begun.{IsBegun}
use Rattle.ae_first_clauses.proofs.Begun.{none_begun}
use Rattle.ae_first_clauses.proofs.beginning.begin.Goals as goal

pub add_hypotheses-requires-clause-begun : goal.add_hypotheses-requires-clause-begun
add_hypotheses-requires-clause-begun c =
    subst (λ (x : List ClauseLine × List Clause). IsBegun c.args.problem.now c.args.goal 0 x.0 x.1) (λ i. (sym c.new.ensures.items i, sym c.new-2.ensures i)) (none_begun c.args.problem.now c.args.goal)
