use Rattle.std.specs.Prelude.{◌⊎◌, List}
use Rattle.std.proofs.Common.{inl, inr}
use Rattle.ae_bounds.specs.declared.rows.Row.{Row}
use Rattle.ae_bounds.specs.Combinations.{AreClosed}
use Rattle.ae_bounds.specs.Findings.{NoneIsRefuted, HasRefuted}
use Rattle.ae_bound_solve.proofs.solving.answer_of.Goals as goal

pub point_answer-requires-clause-closed : goal.point_answer-requires-clause-closed
point_answer-requires-clause-closed c = all_closed c.args.rows.now c.requires.closed (c.found_in.ensures.open c.in-Open.is)
  where
    all_closed : (rows : List Row) → AreClosed rows ⊎ HasRefuted rows → NoneIsRefuted rows → AreClosed rows
    all_closed rows (inl closed) none = closed
    all_closed rows (inr refuted) none = absurd (none refuted.0 refuted.1 refuted.2)
