use Rattle.std.proofs.Common.{subst}
use Rattle.ae_linear.specs.Rows.{AreRows, row_at}
use Rattle.ae_value_table.specs.Table.{Contents}
use Rattle.ae_value_table.proofs.table.Values.row.Goals as goal

pub returns-clause-rows : goal.returns-clause-rows
returns-clause-rows c = subst (λ (r : Contents). AreRows (λ n. row_at r.rows n)) c.self.view_is c.row.ensures.rows
