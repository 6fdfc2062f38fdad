use Rattle.ae_refuted.proofs.Ends.{derives_so}
use Rattle.ae_refuted.proofs.refuting.refutation.Goals as goal

pub returns-clause-derives : goal.returns-clause-derives
returns-clause-derives c = λ p g a e. derives_so p g (record { lines = c.from_vec.result }) c.args.lines.items c.from_vec.ensures a e
