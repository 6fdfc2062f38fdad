use Rattle.ae_linear.specs.Rows.{row_at}
use Rattle.ae_linear.proofs.Canons.{IsCanonizing}
use Rattle.ae_linear.proofs.rows.Rows.canon.Given as goal

abbrev pub invariant-loop-part : goal.invariant-loop-part
invariant-loop-part l = IsCanonizing (λ n. row_at l.self n) l.lin l.part-items l.part-index l.form
