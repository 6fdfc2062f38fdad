use Rattle.std.proofs.Common.{arith, ◌+◌}
use Rattle.ae_proofreader.proofs.PlaceReading.{placed_begin, placed_faulty, placed_end, placed_on}
use Rattle.ae_proofreader.proofs.places.read_place_row.Goals as goal

pub places-init : goal.places-init
places-init c = (omega arith, λ l. l, placed_begin c.args.text.now c.args.from c.new-places.result c.new-places.ensures)

pub returns-in-Err-clause-read : goal.returns-in-Err-clause-read
returns-in-Err-clause-read c = placed_faulty c.args.text.now c.args.from c.places.low c.places.at c.places.places c.places.invariant.2 c.in-Err.fault c.in-Err.ensures.read

pub returns-then-close-ne32-clause-read : goal.returns-then-close-ne32-clause-read
returns-then-close-ne32-clause-read c =
    placed_end c.args.text.now c.args.from c.places.low c.places.at c.places.places c.places.invariant.2 c.in-Ok.found.0 c.in-Ok.found.1 c.push.new.self c.in-Ok.ensures.read c.if-close-ne32.true c.in_default.ensures.ok

pub places-preserved : goal.places-preserved
places-preserved c =
    let low = c.places.invariant.0 in
    let ahead = c.in-Ok.ensures.ahead.0 in (
      omega arith,
      λ l. c.in-Ok.ensures.ahead.1,
      placed_on c.args.text.now c.args.from c.places.low c.places.at c.places.places c.places.invariant.2
          c.in-Ok.found.0 c.in-Ok.found.1 (c.in-Ok.found.0.0 + 1) c.push.new.self c.in-Ok.ensures.read c.if-close-ne32.false (c.in-Ok.ensures.below c.if-close-ne32.false) (omega arith) c.in_default.ensures.ok,
    )
