use Rattle.std.proofs.Common.{◌≡◌}
use Rattle.ae_bounds.specs.Combinations.{IsExtended}
use Rattle.ae_bounds.specs.Findings.{NoneIsRefuted, StopsAtRefuted}
use Rattle.ae_bounds.specs.Inner.Directions.{AreIndexed}
use Rattle.ae_ineq.specs.Inner.Sets.{name_reach}
use Rattle.ae_bounds.proofs.LargestNames.{IsReached}
use Rattle.ae_bounds.proofs.bounds.combine_earlier.Given as goal

abbrev pub invariant-partners : goal.invariant-partners
invariant-partners l = record {
  indexed : AreIndexed l.rows l.directions.keys;
  extended : IsExtended l.fn.rows l.fn.journal.lines l.rows l.journal.lines;
  limit : l.journal.limit ≡ l.fn.journal.limit;
  reached : IsReached l.fn.rows l.place l.at l.rows;
  possible : NoneIsRefuted l.rows;
  stops : StopsAtRefuted l.fn.rows l.rows;
}

abbrev pub decreases-partners : goal.decreases-partners
decreases-partners l = name_reach l.at
