use Rattle.std.proofs.Common.{◌≡◌, ◌++◌, take}
use Rattle.ae_elab.specs.Formulas.{merged_with}
use Rattle.ae_elab.specs.Typings.{around_in}
use Rattle.ae_typing.proofs.patterns.merged_variables.Given as goal

abbrev pub invariant-loop-variable : goal.invariant-loop-variable
invariant-loop-variable l = l.all ≡ take l.variable-index (merged_with l.fn.quantifier (around_in l.fn.around))

abbrev pub invariant-loop-other : goal.invariant-loop-other
invariant-loop-other l = l.all ≡ merged_with l.fn.quantifier (around_in l.fn.around) ++ take l.other-index l.own
