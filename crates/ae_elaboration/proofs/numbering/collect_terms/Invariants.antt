use Rattle.std.proofs.Common.{◌≡◌, take}
use Rattle.std.specs.List.{flat_map}
use Rattle.ae_elab.specs.Numbering.{once_more, sorts_in_term}
use Rattle.ae_elaboration.proofs.CollectLaws.{opened}
use Rattle.ae_elaboration.proofs.numbering.collect_terms.Given as goal

abbrev pub invariant-loop-term : goal.invariant-loop-term
invariant-loop-term l = l.variables ≡ once_more l.fn.variables (opened (flat_map sorts_in_term (take l.term-index l.terms)))
