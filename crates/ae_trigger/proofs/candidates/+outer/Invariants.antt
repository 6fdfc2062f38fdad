use Rattle.std.proofs.Common.{◌≡◌, take, Some}
use Rattle.ae_trigger.specs.Inner.Candidates as spec
use Rattle.ae_trigger.proofs.candidates.+outer.Given as goal

abbrev pub invariant-outers-loop-term : goal.invariant-outers-loop-term
invariant-outers-loop-term l = spec.outers l.depth (take l.term-index l.terms) ≡ Some l.found
