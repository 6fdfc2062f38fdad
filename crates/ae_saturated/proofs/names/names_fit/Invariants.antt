use Rattle.std.proofs.Common.{◌≡◌, true, take}
use Rattle.std.specs.List.{list_all}
use Rattle.ae_saturated.specs.Names.{name_fits}
use Rattle.ae_saturated.proofs.names.names_fit.Given as goal

abbrev pub invariant-loop-name : goal.invariant-loop-name
invariant-loop-name l = list_all (name_fits l.signature l.system) (take l.name-index l.names) ≡ true
