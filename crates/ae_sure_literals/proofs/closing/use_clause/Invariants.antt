use Rattle.std.specs.Prelude.{take}
use Rattle.std.specs.List.{AllByRecursion}
use Rattle.ae_sure_literals.specs.Inner.Closing.{Forces, IsClosedAt, Passes}
use Rattle.ae_sure_literals.proofs.closing.use_clause.Given as goal

abbrev pub invariant-loop-lit : goal.invariant-loop-lit
invariant-loop-lit l =
    Passes l.trail.assigned (λ x js. Forces x js l.clause) (λ fs. AllByRecursion (IsClosedAt l.trail.assigned fs l.clause) (take l.lit-index l.clause)) l.fn.flags l.flags l.changed
