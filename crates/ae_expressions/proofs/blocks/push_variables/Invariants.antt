use Rattle.std.proofs.Common.{◌≡◌, ◌++◌, map, take}
use Rattle.ae_elab.specs.Scope.{Scope}
use Rattle.ae_expressions.proofs.BlockLaws.{Variables}
use Rattle.ae_expressions.proofs.blocks.push_variables.Given as goal

abbrev pub invariant-loop-name : goal.invariant-loop-name
invariant-loop-name l = record {
  variables : (sc : Scope) → Variables sc l.sort l.names l.fn.bounds l.bounds l.fn.passing l.passing l.name-index;
  names : map (λ b. b.name) l.bounds ≡ map (λ b. b.name) l.fn.bounds ++ take l.name-index l.names;
}
