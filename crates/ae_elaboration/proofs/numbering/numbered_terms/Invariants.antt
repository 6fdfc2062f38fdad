use Rattle.std.proofs.Common.{◌≡◌, map, take}
use Rattle.ae_elab.specs.Numbering.{numbered_sort, with_sorts_term}
use Rattle.ae_elaboration.proofs.numbering.numbered_terms.Given as goal

abbrev pub invariant-loop-term : goal.invariant-loop-term
invariant-loop-term l = l.copies ≡ map (with_sorts_term (numbered_sort l.is_goal l.variables)) (take l.term-index l.terms)
