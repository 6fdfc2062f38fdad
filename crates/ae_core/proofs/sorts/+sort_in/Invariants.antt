use Rattle.std.proofs.Common.{◌≡◌, map, take, Some}
use Rattle.ae_core.specs.Sorts as spec
use Rattle.ae_base.specs.Options as options
use Rattle.ae_core.proofs.sorts.+sort_in.Given as goal

abbrev pub invariant-sorts_in-loop-term : goal.invariant-sorts_in-loop-term
invariant-sorts_in-loop-term l = options.all_known (map (spec.sort_in l.signature (spec.is_closed_sort l.signature) l.env) (take l.term-index l.terms)) ≡ Some l.found
