use Rattle.std.proofs.Common.{refl, inl}
use Rattle.ae_bound_rest.proofs.Agreed.{agreed_kept}
use Rattle.ae_bound_solve.proofs.licensed.solve_licensed.Goals as goal

pub returns-in-Ok-clause-extended : goal.returns-in-Ok-clause-extended
returns-in-Ok-clause-extended c = (c.solve.new.journal.lines, c.solve.ensures.extended, inl refl)

pub returns-in-Err-Number-clause-extended : goal.returns-in-Err-Number-clause-extended
returns-in-Err-Number-clause-extended c = (c.solve.new.journal.lines, c.solve.ensures.extended, c.with_rest.ensures.noted)

pub returns-in-Err-Number-clause-licensed : goal.returns-in-Err-Number-clause-licensed
returns-in-Err-Number-clause-licensed c = λ w x e a g.
    c.with_rest.ensures.licensed w x (let i = e in cc) (agreed_kept x c.args.bounds.now c.solve.new.bounds c.args.journal.now.lines c.solve.new.journal.lines a c.solve.ensures.extended) g

pub returns-in-Err-Steps-clause-extended : goal.returns-in-Err-Steps-clause-extended
returns-in-Err-Steps-clause-extended c = (c.solve.new.journal.lines, c.solve.ensures.extended, inl refl)

pub returns-in-Err-Memory-clause-extended : goal.returns-in-Err-Memory-clause-extended
returns-in-Err-Memory-clause-extended c = (c.solve.new.journal.lines, c.solve.ensures.extended, inl refl)
