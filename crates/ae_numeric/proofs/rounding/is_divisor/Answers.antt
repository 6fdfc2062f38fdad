use Rattle.std.proofs.Common.{unsigned_abs, ap, ◌∙◌}
use Rattle.std.proofs.lemmas.Int.{to_z-of_z}
use mir.Syntax.{w128}
use Rattle.ae_numeric.proofs.FloorLaws.{divides_test}
use Rattle.ae_numeric.proofs.rounding.is_divisor.Goals as goal

pub returns : goal.returns
returns c =
    divides_test c.unsigned_abs.result c.unsigned_abs-2.result (unsigned_abs c.args.number) (unsigned_abs c.args.divisor)
    (c.unsigned_abs.ensures.value ∙ ap unsigned_abs (to_z-of_z w128 c.args.number c.ranges.number)) (c.unsigned_abs-2.ensures.value ∙ ap unsigned_abs (to_z-of_z w128 c.args.divisor c.ranges.divisor))
