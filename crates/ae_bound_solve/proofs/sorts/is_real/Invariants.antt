use Rattle.std.specs.Prelude.{◌<◌, ◌≡◌, Some, length, slice_get}
use Rattle.ae_bounds.specs.declared.rows.Row.{Row}
use Rattle.ae_bound_blocks.specs.Ancestors.{IsAncestor}
use Rattle.ae_bound_solve.specs.Inner.Sorts.{IsFirstParent}
use Rattle.ae_bound_solve.proofs.sorts.is_real.Given as goal

abbrev pub invariant-down : goal.invariant-down
invariant-down l = record {
  ancestor : IsAncestor l.rows l.place l.at;
  within : l.at < length l.rows;
  next : (r : Row) → slice_get l.rows l.at ≡ Some r → IsFirstParent r.from l.parent;
}

abbrev pub decreases-down : goal.decreases-down
decreases-down l = l.at
