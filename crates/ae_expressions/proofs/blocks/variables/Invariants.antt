use Rattle.std.proofs.Common.{ℕ, List, map, drop}
use Rattle.std.specs.List.{AllByRecursion}
use Rattle.ae_core.specs.declared.terms.Sort.{Sort}
use Rattle.ae_elab.specs.Names.{IsName}
use Rattle.ae_elab.specs.Scope.{Local, scope_with}
use Rattle.ae_elab.specs.Typings.{bound_in}
use Rattle.ae_expressions.proofs.BlockLaws.{Groups}
use Rattle.ae_expressions.proofs.blocks.variables.Given as goal

abbrev pub invariant-loop-group : goal.invariant-loop-group
invariant-loop-group l = record {
  bounds : (locals : List Local) (m : ℕ → Sort)
      → Groups (scope_with l.context.text.now l.context.known locals) l.groups m l.fn.passing l.passing (map (bound_in l.context.text.now) l.bounds) l.seen (drop l.group-index l.groups);
  names : AllByRecursion (λ b. IsName l.context.text.now b.name) l.bounds;
}
