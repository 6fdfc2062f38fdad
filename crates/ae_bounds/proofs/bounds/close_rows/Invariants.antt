use Rattle.std.specs.Prelude.{nat_eq, length}
use Rattle.std.proofs.Common.{◌≡◌}
use Rattle.indexmap.specs.IndexMap.{get}
use Rattle.ae_bounds.specs.Combinations.{IsExtended}
use Rattle.ae_bounds.specs.Findings.{NoneIsRefuted, StopsAtRefuted}
use Rattle.ae_bounds.specs.Inner.Pairs.{IsKept}
use Rattle.ae_bounds.proofs.bounds.close_rows.Given as goal

abbrev pub invariant-loop-place : goal.invariant-loop-place
invariant-loop-place l = record {
  kept : IsKept l.rows l.directions.keys (get nat_eq l.latest) l.earlier;
  closed : length l.earlier ≡ l.place;
  extended : IsExtended l.fn.rows l.fn.journal.lines l.rows l.journal.lines;
  limit : l.journal.limit ≡ l.fn.journal.limit;
  possible : NoneIsRefuted l.rows;
  stops : StopsAtRefuted l.fn.rows l.rows;
}
