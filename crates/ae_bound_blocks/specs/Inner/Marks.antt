-- Rows as lines that name the rows of which they are made, so that what is known of the used lines of a proof holds of them.
use Rattle.std.specs.Prelude.{Bool, List, [], map}
use Rattle.ae_core.specs.declared.proofs.ClauseLine.{ClauseLine}
use Rattle.ae_core.specs.declared.proofs.ClauseLine.TheVariants.{Rup}
use Rattle.ae_bounds.specs.declared.rows.Row.{Row}
use Rattle.ae_bound_blocks.specs.Ancestors.{sources}

abbrev pub as_line : Bool → Row → ClauseLine
as_line through r = Rup [] (sources through r)

abbrev pub as_lines : Bool → List Row → List ClauseLine
as_lines through rows = map (as_line through) rows
