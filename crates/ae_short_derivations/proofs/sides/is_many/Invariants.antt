use Rattle.std.specs.Prelude.{◌<◌, length}
use Rattle.ae_store.specs.Shapes.{shapes}
use Rattle.ae_store.specs.Terms.{terms}
use Rattle.ae_short_derivations.proofs.Together.{IsFront}
use Rattle.ae_short_derivations.proofs.sides.is_many.Given as goal

abbrev pub invariant-loop-i : goal.invariant-loop-i
invariant-loop-i l =
    (0 < l.i) × (l.at < length (terms (shapes l.store.nodes))) × IsFront l.symbol.head l.symbol.sorts (terms (shapes l.store.nodes)) l.name l.names l.i l.at
