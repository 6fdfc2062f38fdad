use Rattle.std.specs.Prelude.{◌-◌, ◌<◌, length, get_or}
use Rattle.std.proofs.Common.{refl, arith}
use Rattle.ae_store.specs.Shapes.{shapes}
use Rattle.ae_store.specs.Terms.{terms}
use Rattle.ae_short_derivations.proofs.Together.{front_turn}
use Rattle.ae_short_derivations.proofs.sides.is_many.Goals as goal

pub loop-i-preserved : goal.loop-i-preserved
loop-i-preserved c =
    let ns = c.args.names.now in
    let i = c.loop-i.i in
    let low = c.loop-i.invariant.0 in
    let within : i < length ns = omega (arith, c.loop-i-test.true, c.loop-i.auto.i-end) in (
      omega (arith, low),
      c.in-Some.ensures.within,
      front_turn c.args.symbol.now.head c.args.symbol.now.sorts (terms (shapes c.args.store.now.nodes)) c.args.name c.loop-i.at c.in-Some.first ns i (get_or ns (length ns - i) 0) 0 low within refl c.in-Some.ensures.joined
          c.loop-i.invariant.2,
    )
