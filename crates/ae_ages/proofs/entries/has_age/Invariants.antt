use Rattle.std.proofs.Common.{◌≡◌, take, false}
use Rattle.std.specs.List.{list_any}
use Rattle.ae_ages.specs.Ages.{gives_age}
use Rattle.ae_ages.proofs.entries.has_age.Given as goal

abbrev pub invariant-loop-entry : goal.invariant-loop-entry
invariant-loop-entry l = list_any (gives_age l.formula l.generation) (take l.entry-index l.entries) ≡ false
