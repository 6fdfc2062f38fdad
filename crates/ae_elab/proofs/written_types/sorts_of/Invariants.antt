use Rattle.std.proofs.Common.{List, ℕ, drop}
use Rattle.ae_core.specs.declared.terms.Sort.{Sort}
use Rattle.ae_elab.specs.Scope.{Local, scope_with}
use Rattle.ae_elab.proofs.EachLaws.{Goes}
use Rattle.ae_elab.proofs.TypeRules.{arg_rule}
use Rattle.ae_elab.proofs.written_types.sorts_of.Given as goal

abbrev pub invariant-loop-item : goal.invariant-loop-item
invariant-loop-item l =
    (locals : List Local) (m : ℕ → Sort)
    → Goes (arg_rule l.ground (scope_with l.text l.known locals)) l.item-items m m l.fn.passing l.passing l.sorts (drop l.item-index l.item-items)
