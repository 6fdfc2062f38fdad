use Rattle.std.proofs.Common.{arith, ◌∙◌, ◌∷◌, [], sym, ap}
use Rattle.ae_elab.specs.Weights as rule
use Rattle.ae_sizes.specs.Inner.Counted.{counted_weight}
use Rattle.ae_sizes.specs.Inner.Weights.{inequalities}
use Rattle.ae_sizes.proofs.CountedLaws.{distinct_more}
use Rattle.ae_sizes.proofs.node_sizes.conjunction.Goals as goal

pub returns-else-count-lt2 : goal.returns-else-count-lt2
returns-else-count-lt2 c = λ w p.
    let n = c.args.count in
    c.beside.ensures (inequalities (rule.pairs n) ∷ []) w (c.inequalities.ensures (rule.pairs n) c.requires) p
    ∙ ap counted_weight (sym (distinct_more n w (omega (arith, c.if-count-lt2.false))))
