use Rattle.std.proofs.Common.{◌≡◌, false, take}
use Rattle.std.specs.List.{list_any}
use Rattle.ae_core.specs.Signatures.{has_variable}
use Rattle.ae_trigger.proofs.occurrences.+has_variable.Given as goal

abbrev pub invariant-have_variable-loop-term : goal.invariant-have_variable-loop-term
invariant-have_variable-loop-term l = list_any (has_variable l.distance) (take l.term-index l.terms) ≡ false
