use Rattle.std.proofs.Common.{◌≡◌, take, map}
use Rattle.ae_core.specs.declared.terms.Head.TheVariants.{Symbol}
use Rattle.ae_saturated.proofs.names.symbols.Given as goal

abbrev pub invariant-loop-number : goal.invariant-loop-number
invariant-loop-number l = l.heads ≡ map Symbol (take l.number-index l.numbers)
