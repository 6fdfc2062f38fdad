use Rattle.std.proofs.Common.{◌≡◌, take}
use Rattle.std.specs.Prelude.{map}
use Rattle.ae_rules.specs.Linear.{form}
use Rattle.ae_computing.specs.Inner.Exact.{meaning}
use Rattle.ae_computing.proofs.forms.+forms.Given as goal

abbrev pub invariant-forms_of-loop-term : goal.invariant-forms_of-loop-term
invariant-forms_of-loop-term l = map meaning l.forms.items ≡ map form (take l.term-index l.terms)
