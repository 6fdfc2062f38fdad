use Rattle.std.proofs.Common.{◌++◌, ◌∷◌, [], sym, ap, subst, ◌∙◌}
use Rattle.ae_brought_blocks.proofs.adding.add_fresh.Goals as goal
use Rattle.ae_opening.specs.declared.opening.FreshLine.{FreshLine}
use Rattle.ae_searching.specs.Steps.{MayCome}

pub returns-clause-searching : goal.returns-clause-searching
returns-clause-searching g c p n b level s s2 old new js on h =
    c.in_ok-add_line.ensures.searching p n b level s2 new js
    (subst (λ (x : FreshLine). MayCome p n s2 new c.args.lines.now.items js x.line x.clause) (sym c.into_inner-line.ensures) on.1)
    (c.names_grow.ensures p n b level s s2 old new c.args.lines.now.items js on.0 h)

pub returns-clause-lines : goal.returns-clause-lines
returns-clause-lines g c = c.in_ok-add_line.ensures.lines ∙ ap (λ (x : FreshLine). c.args.lines.now.items ++ x.line ∷ []) c.into_inner-line.ensures

pub returns-clause-clauses : goal.returns-clause-clauses
returns-clause-clauses g c = c.in_ok-add_line.ensures.clauses ∙ ap (λ (x : FreshLine). c.args.solver.now.propagation.clauses ++ x.clause ∷ []) c.into_inner-line.ensures
