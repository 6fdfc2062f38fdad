use Rattle.std.proofs.Common.{rules, length, ◌<◌, ◌++◌, ap, sym, subst, ◌∙◌, take}
use Rattle.ae_goal_names.specs.Named.{HasNamed, clause_terms, all_terms}
use Rattle.ae_goal_names.proofs.Joining.{both_named, flat_next}
use Rattle.ae_goal_names.proofs.naming.name_clauses.Goals as goal

pub loop-clause-preserved : goal.loop-clause-preserved
loop-clause-preserved c =
    let h : c.loop-clause.clause-index < length c.args.clauses.now = search rules in
    subst (HasNamed c.args.store.now c.name_clause.new.store) (sym (flat_next clause_terms c.args.clauses.now c.loop-clause.clause-index c.clause-item.result h c.clause-item.is ∙ ap (λ z. all_terms (take c.loop-clause.clause-index c.args.clauses.now) ++ clause_terms z) (sym c.as_slice.ensures)))
    (both_named c.args.store.now c.loop-clause.store c.name_clause.new.store (all_terms (take c.loop-clause.clause-index c.args.clauses.now)) (clause_terms c.as_slice.result.now) c.loop-clause.invariant c.in_ok-name_clause.ensures)
