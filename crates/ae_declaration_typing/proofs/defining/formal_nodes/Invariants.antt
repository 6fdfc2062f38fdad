use Rattle.std.proofs.Common.{take}
use Rattle.ae_declaration_typing.specs.Inner.Additions.{AddsTrees, own_args}
use Rattle.ae_declaration_typing.proofs.defining.formal_nodes.Given as goal

abbrev pub invariant-loop-bound : goal.invariant-loop-bound
invariant-loop-bound l = AddsTrees l.fn.environment l.environment (own_args (take l.bound-index l.bounds)) l.places
