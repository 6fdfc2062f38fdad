use Rattle.std.proofs.Common.{◌≡◌, true, take}
use Rattle.std.specs.List.{list_all}
use Rattle.ae_counts.specs.Inner.Counted as spec
use Rattle.ae_counts.proofs.terms.+terms.Given as goal

abbrev pub invariant-terms_count-loop-term : goal.invariant-terms_count-loop-term
invariant-terms_count-loop-term l = list_all spec.term_counts (take l.term-index l.terms) ≡ true
