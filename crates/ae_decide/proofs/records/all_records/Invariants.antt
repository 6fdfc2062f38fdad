use Rattle.std.proofs.Common.{◌≡◌, true, take, ◌&&◌}
use Rattle.std.specs.List.{list_all}
use Rattle.ae_decide.specs.Records.{has_fields, has_taken}
use Rattle.ae_decide.proofs.records.all_records.Given as goal

abbrev pub invariant-loop-name : goal.invariant-loop-name
invariant-loop-name l = list_all (λ t. has_fields l.signature l.system t && has_taken l.system t) (take l.name-index l.names) ≡ true
