use Rattle.std.specs.Prelude.{◌≡◌, length}
use Rattle.ae_state.specs.Names.{assumed_in}
use Rattle.ae_inequalities.specs.Held.{AreOfTags, Fits}
use Rattle.ae_literal_rows.specs.Trails.{AreAdded}
use Rattle.ae_literal_rows.proofs.trails.more_rows.Given as goal

abbrev pub invariant-loop-place : goal.invariant-loop-place
invariant-loop-place l = record {
  so_far : AreAdded l.store l.state l.trail l.marks l.from l.place l.fn.rows l.rows;
  fitting : Fits l.store l.rows;
  tagged : AreOfTags (assumed_in l.state) l.fn.rows → AreOfTags (assumed_in l.state) l.rows;
  even : length l.rows.tags ≡ length l.rows.given;
}
