-- Widths of kept rows, and what is noted for them.
use Rattle.std.specs.Prelude.{List, ◌≡◌, ◌⊎◌}
use Rattle.ae_journal.specs.declared.lines.Line.{Line}
use Rattle.ae_journal.specs.declared.answers.WideAt.{WideAt}
use Rattle.ae_ineq.specs.Widths.{IsPointWide}
use Rattle.ae_bounds.specs.declared.rows.Row.{Row}
use Rattle.ae_bounds.specs.Combinations.{IsWideIn}
use Rattle.ae_bound_points.specs.Points.{IsNonzeroRow}
use Rattle.ae_bound_widths.specs.Fractions.{AreFinished}
use Rattle.ae_bound_rest.specs.Rest.{AreNoted}

-- a width of the combination of two rows, or of the making of the point of rows that have all their combinations
abbrev pub IsWidth : List Row → WideAt → Type 0
IsWidth rows w = IsWideIn rows w ⊎ (IsPointWide (IsNonzeroRow rows) w × AreFinished rows)

-- nothing more was noted, or combinations that were left of rows that have all theirs
abbrev pub AreNotedOrNone : List Row → List Line → List Line → Type 0
AreNotedOrNone rows js ks = (ks ≡ js) ⊎ (AreFinished rows × AreNoted rows js ks)
