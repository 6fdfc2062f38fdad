use Rattle.std.specs.Prelude.{ℤ, pos, ◌<ℤ◌, ◌*ℤ◌}
use Rattle.std.proofs.Common.{sym, ap, ◌∙◌, subst}
use Rattle.ae_num.proofs.ReductionLaws.{quotient_read}
use Rattle.ae_value_steps.proofs.Quotients.{quotient_is}
use Rattle.ae_value_steps.proofs.numbers.quotient.Goals as goal

pub returns-clause-times : goal.returns-clause-times
returns-clause-times c =
    ap (λ (z : ℤ). z *ℤ c.args.den) (quotient_read c.args.whole c.args.den c.ranges.whole c.ranges.den c.requires.positive ∙ quotient_is c.args.den c.args.whole c.requires.divides c.requires.positive) ∙ c.requires.divides.is

pub returns-clause-positive : goal.returns-clause-positive
returns-clause-positive c =
    subst (λ (z : ℤ). pos 0 <ℤ z) (sym (quotient_read c.args.whole c.args.den c.ranges.whole c.ranges.den c.requires.positive ∙ quotient_is c.args.den c.args.whole c.requires.divides c.requires.positive)) c.requires.divides.positive
