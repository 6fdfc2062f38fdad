use Rattle.std.proofs.Common.{◌≡◌, true, take}
use Rattle.std.specs.List.{list_all}
use Rattle.ae_core.specs.Sorts as spec
use Rattle.ae_core.proofs.sorts.terms_ok.Given as goal

abbrev pub invariant-loop-term : goal.invariant-loop-term
invariant-loop-term l = list_all (spec.trigger_ok l.signature (spec.is_closed_sort l.signature) l.env) (take l.term-index l.terms) ≡ true
