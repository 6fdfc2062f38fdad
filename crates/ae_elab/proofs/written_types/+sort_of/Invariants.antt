use Rattle.std.proofs.Common.{List, ℕ, drop}
use Rattle.ae_core.specs.declared.terms.Sort.{Sort}
use Rattle.ae_syntax.specs.declared.types.WrittenType.{size-WrittenType}
use Rattle.ae_elab.specs.Scope.{Local, scope_with}
use Rattle.ae_elab.proofs.EachLaws.{Goes}
use Rattle.ae_elab.proofs.TypeRules.{arg_rule}
use Rattle.ae_elab.proofs.written_types.+sort_of.Given as goal

abbrev pub decreases-sort_of : goal.decreases-sort_of
decreases-sort_of l = size-WrittenType l.written.now

abbrev pub invariant-loop-arg : goal.invariant-loop-arg
invariant-loop-arg l =
    (locals : List Local) (m : ℕ → Sort)
    → Goes (arg_rule l.ground (scope_with l.text l.known locals)) l.arg-items m m l.fn.passing l.passing l.sorts (drop l.arg-index l.arg-items)
