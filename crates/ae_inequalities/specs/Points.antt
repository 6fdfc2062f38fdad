-- The values of a point.
use Rattle.std.specs.Prelude.{[]}
use Rattle.ae_journal.specs.declared.systems.PointAt.{PointAt}
use Rattle.ae_num.specs.Forms.{IsNormal}

-- the fraction is in lowest terms, within the limits, with a positive denominator
abbrev pub IsPointNumber : PointAt → Type 0
IsPointNumber p = IsNormal (record { den = p.bottom; parts = []; constant = p.top })
