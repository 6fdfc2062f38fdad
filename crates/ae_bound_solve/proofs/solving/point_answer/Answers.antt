use Rattle.std.specs.Prelude.{◌≡◌}
use Rattle.ae_bound_solve.proofs.solving.point_answer.Goals as goal

pub returns-in-Err-Wide-clause-number : goal.returns-in-Err-Wide-clause-number
returns-in-Err-Wide-clause-number c = λ w e.
    let same : c.in-Err-Wide.wide ≡ w = cc in (
      c.point.ensures.wide w (let a = c.in-Err-Wide.is in let b = c.in-Err-Wide.field-0-is in cc),
      record { normal = c.requires.normal; rounded = c.requires.were_rounded; closed = c.requires.closed; loose = c.requires.loose },
    )
