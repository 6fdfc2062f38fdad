use Rattle.std.specs.Prelude.{take}
use Rattle.ae_inequalities.specs.Inner.Numbered.{AreRowsAt}
use Rattle.ae_inequalities.proofs.tight.rows_at.Given as goal

abbrev pub invariant-loop-number : goal.invariant-loop-number
invariant-loop-number l = record {
  so_far : AreRowsAt l.store (record { rows = l.rows; given = l.given; tags = l.tags }) (take l.number-index l.numbers) l.all;
}
