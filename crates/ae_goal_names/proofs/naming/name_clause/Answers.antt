use Rattle.std.proofs.Common.{rules, length, ◌<◌, sym, subst, take}
use Rattle.ae_core.specs.declared.formulas.Lit.{Lit}
use Rattle.ae_journal.specs.States.{outside}
use Rattle.ae_goal_names.specs.Named.{HasNamed, clause_terms}
use Rattle.ae_goal_names.proofs.Joining.{both_named, flat_next}
use Rattle.ae_goal_names.proofs.naming.name_clause.Goals as goal

pub loop-lit-preserved : goal.loop-lit-preserved
loop-lit-preserved c =
    let h : c.loop-lit.lit-index < length c.args.clause.now = search rules in
    subst (HasNamed c.args.store.now c.name_formula.new.store) (sym (flat_next (λ (l : Lit). outside l.formula) c.args.clause.now c.loop-lit.lit-index c.lit-item.result h c.lit-item.is))
    (both_named c.args.store.now c.loop-lit.store c.name_formula.new.store (clause_terms (take c.loop-lit.lit-index c.args.clause.now)) (outside c.lit-item.result.formula) c.loop-lit.invariant c.in_ok-name_formula.ensures)
