use Rattle.std.proofs.Common.{◌∙◌, ap, pos}
use Rattle.ae_math.proofs.Wholes.{ratio_of_zero}
use Rattle.ae_constants.specs.Forms.{multiples}
use Rattle.ae_constants.proofs.forms.zero.Goals as goal

pub returns : goal.returns
returns c = λ j. record { parts = ap multiples c.new-parts.ensures.items j; constant = (c.in_ok-constant.ensures ∙ ratio_of_zero (pos 1)) j }
