use Rattle.std.proofs.Common.{arith, ◌∙◌}
use Rattle.ae_formula_sizes.specs.Inner.Counted as spec
use Rattle.ae_formula_sizes.proofs.TermSizes.{more_terms}
use Rattle.ae_formula_sizes.proofs.sizes.+terms.Goals as goal

pub size_of_terms-loop-term-preserved : goal.size_of_terms-loop-term-preserved
size_of_terms-loop-term-preserved t c =
    c.both-size.ensures ∙ (λ i. spec.both (c.loop-term.invariant i) (c.size_of_term.ensures i))
    ∙ more_terms c.args.terms.now c.loop-term.term-index c.term-item.result (omega arith) c.term-item.is
