use Rattle.std.proofs.Common.{◌∙◌, sym, ap}
use Rattle.ae_elab.specs.Nodes.{tree_in}
use Rattle.ae_elab.specs.Trees as tree
use Rattle.ae_elab.specs.Weights as rule
use Rattle.ae_sizes.specs.Inner.Counted.{counted, told}
use Rattle.ae_sizes.specs.Inner.Weights as own
use Rattle.std.specs.Option.{option_copied}
use Rattle.ae_sizes.proofs.MeasureLaws.{none_there}
use Rattle.ae_sizes.proofs.measures.formula_at.Goals as goal

pub returns-in-None : goal.returns-in-None
returns-in-None c = λ f es p.
    c.standing_for.ensures (rule.one_case 1) c.one_case.ensures
    ∙ ap (λ o. counted (own.claim_size f (tree.claim_of (tree_in o))))
    (sym (none_there (told f) es c.args.measures.now c.args.place p (sym c.at.ensures ∙ ap option_copied c.in-None.is)))
