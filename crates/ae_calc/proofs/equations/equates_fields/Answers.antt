use Rattle.ae_calc.proofs.Equating.{fields_end}
use Rattle.std.proofs.Common.{refl}
use Rattle.ae_calc.proofs.equations.equates_fields.Goals as goal

pub returns : goal.returns
returns c =
    let a = c.args in
    (λ t. fields_end a.earlier.now a.lines.now a.of a.sorts.now a.left.now a.right.now a.count c.loop-i.i c.loop-i-test.false c.loop-i.invariant.0 c.loop-i.invariant.1, λ e. refl)
