use Rattle.std.proofs.Common.{ap}
use Rattle.ae_naturals.specs.Fractions.{value_of}
use Rattle.ae_computing.specs.Inner.Exact.{multiples}
use Rattle.ae_computing.proofs.forms.number.Goals as goal

pub returns : goal.returns
returns c = λ j. record { parts = ap multiples c.new.ensures.items j; constant = value_of c.args.constant }
