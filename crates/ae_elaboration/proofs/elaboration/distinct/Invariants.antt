use Rattle.std.proofs.Common.{◌≡◌, drop}
use Rattle.ae_elab.specs.Elaboration.{differences, all_true}
use Rattle.ae_elaboration.specs.Inner.Conjunctions.{all_with}
use Rattle.ae_elaboration.proofs.elaboration.distinct.Given as goal

abbrev pub invariant-loop-i : goal.invariant-loop-i
invariant-loop-i l = all_with l.whole (differences (drop l.i l.terms)) ≡ all_true (differences l.terms)
