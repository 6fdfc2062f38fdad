use Rattle.std.specs.List.{AllByRecursion}
use Rattle.std.proofs.Common.{sym, subst}
use Rattle.ae_ineq.specs.Inner.Points.{IsNumber}
use Rattle.ae_ineq.specs.declared.point.Valuation.{Valuation}
use Rattle.ae_inequalities.specs.Points.{IsPointNumber}
use Rattle.ae_inequalities.proofs.answering.answered.Goals as goal

pub returns-in_ok-point-in-Point-clause-stand : goal.returns-in_ok-point-in-Point-clause-stand
returns-in_ok-point-in-Point-clause-stand c = λ made e. (
  c.in-Point.made,
  c.in-Point.is,
  λ numbers.
      subst (AllByRecursion IsPointNumber) (let i = e in cc)
      (c.in_ok-point-in-Point.ensures.each (subst (AllByRecursion (λ (at : Valuation). IsNumber at.value)) (sym c.as_slice.ensures) numbers)),
)
