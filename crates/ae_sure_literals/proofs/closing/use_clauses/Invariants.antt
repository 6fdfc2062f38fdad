use Rattle.std.specs.Prelude.{take}
use Rattle.std.specs.List.{AllByRecursion}
use Rattle.ae_sure_literals.specs.Inner.Closing.{Forces, IsClosed, Passes}
use Rattle.ae_sure_literals.proofs.closing.use_clauses.Given as goal

abbrev pub invariant-loop-clause : goal.invariant-loop-clause
invariant-loop-clause l =
    Passes l.trail.assigned (λ x js. AllByRecursion (Forces x js) l.clauses) (λ fs. AllByRecursion (IsClosed l.trail.assigned fs) (take l.clause-index l.clauses)) l.fn.flags l.flags l.changed
