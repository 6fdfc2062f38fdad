use Rattle.std.proofs.Common.{◌≡◌, take, map}
use Rattle.ae_num.specs.Forms.{divided_part}
use Rattle.ae_num.proofs.reduction.divide.Given as goal

abbrev pub invariant-loop-part : goal.invariant-loop-part
invariant-loop-part l = l.parts ≡ map (divided_part l.divisor) (take l.part-index l.form.parts)
