use Rattle.std.proofs.Common.{sym}
use Rattle.ae_values.proofs.widths.leaving_of.Goals as goal

pub subst-requires-clause-into : goal.subst-requires-clause-into
subst-requires-clause-into c = c.in-Some.ensures.rows.normal c.args.of c.in-Some.row.now (sym c.in-Some.ensures.row)
