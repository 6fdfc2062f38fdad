use Rattle.ae_sure_literals.proofs.Using.{opposite_by, signs_apart}
use Rattle.ae_sure_literals.proofs.closing.is_opposite.Goals as goal

pub returns : goal.returns
returns c =
    opposite_by c.args.lit.now c.args.other.now c.same_formula.result (signs_apart c.args.lit.now.positive c.args.other.now.positive c.if-lit-other.false) c.same_formula.ensures.0 c.same_formula.ensures.1
