use Rattle.ae_num.specs.Forms.{IsNormal}
use Rattle.ae_num_tests.proofs.tests.form.Given as goal

abbrev pub invariant-loop-key : goal.invariant-loop-key
invariant-loop-key l = IsNormal l.sum
