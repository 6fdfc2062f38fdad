use Rattle.std.specs.Prelude.{◌≡◌, map, take}
use Rattle.ae_theory.specs.Inner.Hops.{tag_of}
use Rattle.ae_theory.proofs.explaining.tags_of.Given as goal

abbrev pub invariant-loop-hop : goal.invariant-loop-hop
invariant-loop-hop l = l.tags ≡ map (tag_of l.nodes) (take l.hop-index l.hops)
