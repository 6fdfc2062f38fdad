use Rattle.std.specs.Prelude.{◌<◌, ◌^◌, List, unsigned_abs}
use Rattle.std.specs.List.{AllByRecursion}
use Rattle.std.proofs.Common.{sym, subst}
use Rattle.ae_base.proofs.AllOf.{all_before_map}
use Rattle.ae_num.specs.Limits.{FitsLimits}
use Rattle.ae_num.specs.declared.forms.Part.{Part}
use Rattle.ae_row_sides.proofs.sides.opposite.Goals as goal

pub opposite_parts-requires : goal.opposite_parts-requires
opposite_parts-requires c =
    subst (λ (qs : List Part). AllByRecursion (λ (q : Part). FitsLimits q.factor) qs) (sym c.as_slice.ensures)
    (all_before_map (λ n. n < 2 ^ 127) (λ (q : Part). unsigned_abs q.factor) c.args.row.now.parts c.requires.within.1.1)
