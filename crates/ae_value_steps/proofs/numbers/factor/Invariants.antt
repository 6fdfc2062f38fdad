use Rattle.std.proofs.Common.{◌≡◌, drop}
use Rattle.ae_num.specs.Forms.{factor_of}
use Rattle.ae_value_steps.proofs.numbers.factor.Given as goal

abbrev pub invariant-loop-part : goal.invariant-loop-part
invariant-loop-part l = factor_of l.parts l.name ≡ factor_of (drop l.part-index l.parts) l.name
