use Rattle.std.proofs.Common.{◌≡◌, map, take}
use Rattle.ae_elab.specs.Declarations.{generalize}
use Rattle.ae_elab.proofs.sort_entries.generalize_all.Given as goal

abbrev pub invariant-loop-sort : goal.invariant-loop-sort
invariant-loop-sort l = l.entries ≡ map generalize (take l.sort-index l.sorts)
