use Rattle.std.proofs.Common.{◌≡◌, List, ◌++◌, drop}
use Rattle.ae_core.specs.declared.formulas.Formula.{Formula}
use Rattle.ae_elab.specs.Elaboration.{differs_from}
use Rattle.ae_elaboration.specs.Inner.Conjunctions.{all_with}
use Rattle.ae_elaboration.proofs.elaboration.and_differences.Given as goal

abbrev pub invariant-loop-other : goal.invariant-loop-other
invariant-loop-other l =
    (rest : List Formula) → all_with l.whole (differs_from l.term (drop l.other-index l.others) ++ rest) ≡ all_with l.fn.before (differs_from l.term l.others ++ rest)
