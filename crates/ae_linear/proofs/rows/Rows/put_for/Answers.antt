use Rattle.std.proofs.Common.{sym}
use Rattle.ae_pmap.specs.Forest.{present}
use Rattle.ae_pmap.specs.Pairs.{found}
use Rattle.ae_linear.proofs.Canons.{lacks_own}
use Rattle.ae_linear.proofs.rows.Rows.put_for.Goals as goal

pub subst-requires-clause-by : goal.subst-requires-clause-by
subst-requires-clause-by c = c.self.invariant.are_rows.normal c.args.key c.in-Some.row.now (sym c.in-Some.ensures.value)

pub subst-requires-clause-absent : goal.subst-requires-clause-absent
subst-requires-clause-absent c = lacks_own (λ n. found (present c.self.inside.rows) n) c.args.key c.in-Some.row.now c.self.invariant.are_rows (sym c.in-Some.ensures.value)
