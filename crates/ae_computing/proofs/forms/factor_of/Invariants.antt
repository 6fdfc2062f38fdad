use Rattle.std.proofs.Common.{◌≡◌, drop}
use Rattle.ae_math.specs.Fractions.{◌+ℚ◌}
use Rattle.ae_math.specs.Forms.{factor_in}
use Rattle.ae_core.specs.Decided.{Term_discrete}
use Rattle.ae_naturals.specs.Fractions.{value_of}
use Rattle.ae_computing.specs.Inner.Exact.{multiples}
use Rattle.ae_computing.proofs.forms.factor_of.Given as goal

abbrev pub invariant-loop-part : goal.invariant-loop-part
invariant-loop-part l =
    value_of l.sum +ℚ factor_in Term_discrete (multiples (drop l.part-index l.parts)) l.term
    ≡ factor_in Term_discrete (multiples l.parts) l.term
