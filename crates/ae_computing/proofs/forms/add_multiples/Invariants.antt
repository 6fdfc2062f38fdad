use Rattle.std.proofs.Common.{◌≡◌, ◌++◌, drop}
use Rattle.ae_naturals.specs.Fractions.{value_of}
use Rattle.ae_computing.specs.Inner.Exact.{multiples, scaled}
use Rattle.ae_computing.proofs.forms.add_multiples.Given as goal

abbrev pub invariant-loop-part : goal.invariant-loop-part
invariant-loop-part l =
    multiples l.parts.items ++ scaled (value_of l.by) (multiples (drop l.part-index l.added))
    ≡ multiples l.initial.parts.items ++ scaled (value_of l.by) (multiples l.added)
