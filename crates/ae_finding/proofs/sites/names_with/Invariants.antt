use Rattle.std.proofs.Common.{◌≡◌, take}
use Rattle.std.specs.List.{flat_map}
use Rattle.ae_finding.specs.Sites.{at_argument}
use Rattle.ae_finding.proofs.sites.names_with.Given as goal

abbrev pub invariant-loop-argument : goal.invariant-loop-argument
invariant-loop-argument l = l.found ≡ flat_map (at_argument l.known l.head l.fn.either l.place) (take l.argument-index l.arguments)
