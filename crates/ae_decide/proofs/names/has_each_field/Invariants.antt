use Rattle.std.proofs.Common.{◌≡◌, ◌-◌}
use Rattle.std.specs.List.{list_all}
use Rattle.ae_rules.specs.Lines.{fields_from}
use Rattle.ae_decide.specs.Names.{stands_in}
use Rattle.ae_decide.proofs.names.has_each_field.Given as goal

abbrev pub invariant-loop-place : goal.invariant-loop-place
invariant-loop-place l =
    list_all (stands_in l.names) (fields_from l.of l.sorts l.term l.place (l.count - l.place)) ≡ list_all (stands_in l.names) (fields_from l.of l.sorts l.term 0 l.count)
