use Rattle.std.proofs.Common.{◌≡◌, ◌-◌, length}
use Rattle.std.specs.Prelude.{Some}
use Rattle.ae_completed.specs.Joins.{least_from}
use Rattle.ae_completed.proofs.joins.least_with.Given as goal

abbrev pub invariant-loop-name : goal.invariant-loop-name
invariant-loop-name l =
    least_from l.signature l.system l.sort (Some l.value) l.name (length l.system.names - l.name)
    ≡ least_from l.signature l.system l.sort (Some l.value) 0 (length l.system.names)
