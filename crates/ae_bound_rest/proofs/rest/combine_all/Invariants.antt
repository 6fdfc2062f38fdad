use Rattle.std.proofs.Common.{◌≡◌, ◌≤◌}
use Rattle.std.specs.Prelude.{length}
use Rattle.ae_bound_rest.specs.Rest.{IsGrown}
use Rattle.ae_bound_rest.specs.Inner.Pairs.{AreDoneBelow, AreCounted}
use Rattle.ae_bound_rest.proofs.rest.combine_all.Given as goal

abbrev pub invariant-loop-place : goal.invariant-loop-place
invariant-loop-place l = record {
  counted : AreCounted l.sure l.directions.keys;
  grown : IsGrown l.fn.sure l.fn.journal.lines l.sure l.journal.lines;
  limit : l.journal.limit ≡ l.fn.journal.limit;
  within : l.place ≤ length l.sure;
  done : AreDoneBelow l.place l.sure;
}
