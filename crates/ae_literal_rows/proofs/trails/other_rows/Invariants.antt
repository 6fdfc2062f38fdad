use Rattle.ae_state.specs.Names.{assumed_in}
use Rattle.ae_inequalities.specs.Held.{AreOfTags, Fits}
use Rattle.ae_literal_rows.proofs.trails.other_rows.Given as goal

abbrev pub invariant-loop-place : goal.invariant-loop-place
invariant-loop-place l = record {
  fitting : Fits l.store l.rows;
  tagged : AreOfTags (assumed_in l.state) l.rows;
}
