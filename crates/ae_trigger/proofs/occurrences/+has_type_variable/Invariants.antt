use Rattle.std.proofs.Common.{◌≡◌, false, take}
use Rattle.std.specs.List.{list_any}
use Rattle.ae_rules.specs.Matches.{term_has}
use Rattle.ae_trigger.proofs.occurrences.+has_type_variable.Given as goal

abbrev pub invariant-have_type_variable-loop-term : goal.invariant-have_type_variable-loop-term
invariant-have_type_variable-loop-term l = list_any (term_has l.number) (take l.term-index l.terms) ≡ false
