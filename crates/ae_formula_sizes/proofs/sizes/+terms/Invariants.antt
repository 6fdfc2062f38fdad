use Rattle.std.proofs.Common.{◌≡◌, take}
use Rattle.ae_formula_sizes.specs.Inner.Counted as spec
use Rattle.ae_formula_sizes.proofs.sizes.+terms.Given as goal

abbrev pub invariant-size_of_terms-loop-term : goal.invariant-size_of_terms-loop-term
invariant-size_of_terms-loop-term l = l.size ≡ spec.size_of_terms (take l.term-index l.terms)
