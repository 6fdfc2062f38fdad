use Rattle.std.proofs.Common.{◌≡◌, drop}
use Rattle.ae_known.specs.Index as spec
use Rattle.ae_known.proofs.rows.group_names.Given as goal

abbrev pub invariant-loop-group : goal.invariant-loop-group
invariant-loop-group l = spec.group_names l.sorts l.groups ≡ spec.group_names l.sorts (drop l.group-index l.groups)
