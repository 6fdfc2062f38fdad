use Rattle.std.proofs.Common.{subst}
use Rattle.ae_linear.specs.Rows.{AreRows, Contents, row_at}
use Rattle.ae_linear.proofs.rows.Rows.row.Goals as goal

pub returns-clause-rows : goal.returns-clause-rows
returns-clause-rows c = subst (λ (r : Contents). AreRows (λ n. row_at r n)) c.self.view_is c.self.invariant.are_rows
