use Rattle.std.proofs.Common.{◌≡◌}
use Rattle.ae_bound_rest.specs.Rest.{IsGrown}
use Rattle.ae_bound_rest.specs.Inner.Pairs.{ArePairsDone, AreCounted}
use Rattle.ae_bound_rest.proofs.rest.combine_place.Given as goal

abbrev pub invariant-loop-other : goal.invariant-loop-other
invariant-loop-other l = record {
  counted : AreCounted l.sure l.directions.keys;
  grown : IsGrown l.fn.sure l.fn.journal.lines l.sure l.journal.lines;
  limit : l.journal.limit ≡ l.fn.journal.limit;
  paired : ArePairsDone l.fn.sure l.place l.other l.sure;
}
