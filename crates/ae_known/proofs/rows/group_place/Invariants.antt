use Rattle.std.proofs.Common.{◌≡◌, take, false}
use Rattle.std.specs.List.{list_any}
use Rattle.ae_core.specs.Sorts.{same_sorts}
use Rattle.ae_known.proofs.rows.group_place.Given as goal

abbrev pub invariant-loop-place : goal.invariant-loop-place
invariant-loop-place l = list_any (λ g. same_sorts g.sorts l.sorts) (take l.place l.groups) ≡ false
