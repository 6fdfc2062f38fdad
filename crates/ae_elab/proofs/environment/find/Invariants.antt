use Rattle.std.proofs.Common.{List, [], take}
use Rattle.std.specs.List.{AllByRecursion}
use Rattle.ae_elab.specs.Environments.{IsMeaning, FindsAmong, locals_inside}
use Rattle.ae_elab.specs.Nodes.{Entry}
use Rattle.ae_elab.proofs.environment.find.Given as goal

abbrev pub invariant-loop-local : goal.invariant-loop-local
invariant-loop-local l =
    (es : List Entry) → AllByRecursion (λ x. IsMeaning es x.meaning) l.locals → FindsAmong es (locals_inside es [] (take l.local-index l.locals)) l.name l.found
