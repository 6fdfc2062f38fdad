use Rattle.std.proofs.Common.{◌≡◌, ◌++◌, ◌-◌}
use Rattle.ae_elab.specs.Elaboration.{fields_from}
use Rattle.ae_elaboration.proofs.elaboration.fields_of.Given as goal

abbrev pub invariant-loop-place : goal.invariant-loop-place
invariant-loop-place l =
    l.args ++ fields_from (l.count - l.place) l.place l.of l.sorts l.base l.places l.values ≡ fields_from l.count 0 l.of l.sorts l.base l.places l.values
