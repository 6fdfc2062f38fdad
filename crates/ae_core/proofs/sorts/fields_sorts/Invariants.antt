use Rattle.std.proofs.Common.{◌≡◌, map, take}
use Rattle.ae_core.specs.Putting as spec_putting
use Rattle.ae_core.proofs.sorts.fields_sorts.Given as goal

abbrev pub invariant-loop-field : goal.invariant-loop-field
invariant-loop-field l = l.copies ≡ map (λ f. spec_putting.put_sort l.sorts f.sort) (take l.field-index l.fields)
