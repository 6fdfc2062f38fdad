use Rattle.std.proofs.Common.{◌≡◌, true, take}
use Rattle.std.specs.List.{list_all}
use Rattle.ae_saturated.specs.Literals.{literal_fits}
use Rattle.ae_saturated.proofs.literals.literals_fit.Given as goal

abbrev pub invariant-loop-literal : goal.invariant-loop-literal
invariant-loop-literal l = list_all (literal_fits l.signature l.system l.literals) (take l.literal-index l.literals) ≡ true
