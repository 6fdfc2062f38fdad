use Rattle.std.proofs.Common.{◌≡◌, drop}
use Rattle.ae_base.specs.Options.{or_else}
use Rattle.ae_core.specs.declared.terms.Sort.{Unit as UnitSort}
use Rattle.ae_matching.specs.SortMatching.{found}
use Rattle.ae_matches.proofs.candidates.sort_of_variable.Given as goal

abbrev pub invariant-loop-binding : goal.invariant-loop-binding
invariant-loop-binding l = or_else (found l.variable l.bindings) UnitSort ≡ or_else (found l.variable (drop l.binding-index l.bindings)) UnitSort
