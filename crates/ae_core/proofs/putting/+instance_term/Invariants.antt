use Rattle.std.proofs.Common.{◌≡◌, take, map}
use Rattle.ae_core.specs.Putting.{instance_term}
use Rattle.ae_core.proofs.putting.+instance_term.Given as goal

abbrev pub invariant-instance_terms-loop-term : goal.invariant-instance_terms-loop-term
invariant-instance_terms-loop-term l = l.copies ≡ map (instance_term l.sorts) (take l.term-index l.terms)
