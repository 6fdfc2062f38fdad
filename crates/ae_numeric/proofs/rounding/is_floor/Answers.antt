use Rattle.ae_numeric.proofs.FloorLaws.{floor_test}
use Rattle.ae_numeric.proofs.rounding.is_floor.Goals as goal

pub returns : goal.returns
returns c =
    floor_test c.args.number c.floor.result c.args.quotient c.args.divisor c.ranges.number (record { sfits = c.floor.type_inv }) c.ranges.quotient c.ranges.divisor c.floor.ensures
