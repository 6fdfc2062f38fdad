use Rattle.std.proofs.Common.{◌≡◌, ◌+◌, take}
use Rattle.ae_elab.specs.Declarations.{count_from}
use Rattle.ae_elab.proofs.declarations.numbers_from.Given as goal

abbrev pub invariant-loop-constructor : goal.invariant-loop-constructor
invariant-loop-constructor l = record {
  numbers : l.numbers ≡ count_from l.first (take l._constructor-index l._constructor-items);
  next : l.next ≡ l.first + l._constructor-index;
}
