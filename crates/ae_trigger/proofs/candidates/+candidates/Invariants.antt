use Rattle.std.proofs.Common.{◌≡◌, ◌++◌, take}
use Rattle.ae_trigger.specs.Inner.Candidates as spec
use Rattle.ae_trigger.proofs.candidates.+candidates.Given as goal

abbrev pub invariant-put_all-loop-term : goal.invariant-put_all-loop-term
invariant-put_all-loop-term l = l.found ≡ l.initial.found ++ spec.outer_candidates_of l.signature l.depth (take l.term-index l.terms)
