use Rattle.std.proofs.Common.{◌≡◌, ◌++◌, map, reverse, take}
use Rattle.ae_elab.specs.Environments.{entries, locals}
use Rattle.ae_elab.specs.Formulas.{local_of}
use Rattle.ae_elab.specs.Typings.{bound_in}
use Rattle.ae_expressions.proofs.blocks.enter_block.Given as goal

abbrev pub invariant-loop-bound : goal.invariant-loop-bound
invariant-loop-bound l = record {
  nodes : entries l.environment ≡ entries l.fn.environment;
  locals : locals l.environment ≡ reverse (map local_of (map (bound_in l.context.text.now) (take l.bound-index l.bounds))) ++ locals l.fn.environment;
}
