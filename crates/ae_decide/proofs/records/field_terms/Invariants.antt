use Rattle.std.proofs.Common.{◌≡◌, ◌-◌, ◌++◌}
use Rattle.ae_rules.specs.Lines.{fields_from}
use Rattle.ae_decide.proofs.records.field_terms.Given as goal

abbrev pub invariant-loop-place : goal.invariant-loop-place
invariant-loop-place l = l.terms ++ fields_from l.of l.sorts l.term l.place (l.count - l.place) ≡ fields_from l.of l.sorts l.term 0 l.count
