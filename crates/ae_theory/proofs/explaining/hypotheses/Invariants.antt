use Rattle.std.specs.Prelude.{◌≡◌, map, take}
use Rattle.ae_theory.specs.Inner.Hops.{lit_of}
use Rattle.ae_theory.proofs.explaining.hypotheses.Given as goal

abbrev pub invariant-loop-hop : goal.invariant-loop-hop
invariant-loop-hop l = l.lits ≡ map (lit_of l.nodes) (take l.hop-index l.hops)
