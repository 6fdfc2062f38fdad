use Rattle.std.proofs.Common.{◌≡◌}
use Rattle.ae_elab.specs.Declarations.{rigids}
use Rattle.ae_declaration_typing.proofs.defining.rigids.Given as goal

abbrev pub invariant-loop-number : goal.invariant-loop-number
invariant-loop-number l = l.sorts ≡ rigids 0 l.number
