use Rattle.std.specs.Prelude.{◌≡◌, map, take}
use Rattle.ae_bound_rest.specs.Rest.{counted}
use Rattle.ae_bound_rest.specs.Inner.Pairs.{AreCounted}
use Rattle.ae_bound_rest.proofs.starting.start.Given as goal

abbrev pub invariant-loop-row : goal.invariant-loop-row
invariant-loop-row l = record {
  kept : AreCounted l.sure l.directions.keys;
  started : l.sure ≡ map counted (take l.row-index l.rows);
}
