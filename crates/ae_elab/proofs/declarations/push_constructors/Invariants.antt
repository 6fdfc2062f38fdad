use Rattle.std.proofs.Common.{◌≡◌, take}
use Rattle.ae_elab.specs.Declarations.{constructors_from, with_symbols}
use Rattle.ae_elab.proofs.declarations.push_constructors.Given as goal

abbrev pub invariant-loop-constructor : goal.invariant-loop-constructor
invariant-loop-constructor l = record {
  symbols : l.known ≡ with_symbols l.fn.known (constructors_from l.text l.of 0 (take l.constructor-index l.constructor-items));
  place : l.place ≡ l.constructor-index;
}
