use Rattle.std.proofs.Common.{arith, ◌∙◌, ap}
use Rattle.ae_formula_sizes.specs.Inner.Counted as spec
use Rattle.ae_formula_sizes.proofs.TermSizes.{more_triggers}
use Rattle.ae_formula_sizes.proofs.sizes.size_of_triggers.Goals as goal

pub loop-trigger-preserved : goal.loop-trigger-preserved
loop-trigger-preserved c =
    c.both-size.ensures ∙ (λ i. spec.both (c.loop-trigger.invariant i) ((c.size_of_terms.ensures ∙ ap spec.size_of_terms c.as_slice.ensures) i))
    ∙ more_triggers c.args.triggers.now c.loop-trigger.trigger-index c.trigger-item.result (omega arith) c.trigger-item.is
