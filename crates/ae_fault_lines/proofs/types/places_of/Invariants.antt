use Rattle.std.proofs.Common.{◌≡◌, ◌++◌, drop}
use Rattle.ae_fault_lines.specs.Lines.{type_places}
use Rattle.ae_fault_lines.proofs.types.places_of.Given as goal

abbrev pub invariant-loop-decl : goal.invariant-loop-decl
invariant-loop-decl l = l.places ++ type_places (drop l.decl-index l.decl-items) ≡ type_places l.decl-items
