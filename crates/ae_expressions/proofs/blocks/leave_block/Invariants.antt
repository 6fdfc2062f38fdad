use Rattle.std.proofs.Common.{◌≡◌, ◌++◌, List, length, drop}
use Rattle.ae_elab.specs.Environments.{entries, locals}
use Rattle.ae_elab.specs.Scope.{Local}
use Rattle.ae_expressions.proofs.blocks.leave_block.Given as goal

abbrev pub invariant-loop-place : goal.invariant-loop-place
invariant-loop-place l = record {
  nodes : entries l.environment ≡ entries l.fn.environment;
  locals : (inner outer : List Local) → locals l.fn.environment ≡ inner ++ outer → length inner ≡ l.count → locals l.environment ≡ drop l.place inner ++ outer;
}
