use Rattle.std.proofs.Common.{sym}
use Rattle.ae_journal.proofs.Splits.{all_contained}
use Rattle.ae_ordered_rounds.specs.Inner.Orderable.{IsFineRow}
use Rattle.ae_ordered_rounds.proofs.pending.all_sides.Goals as goal

pub tight_sides-requires-clause-right : goal.tight_sides-requires-clause-right
tight_sides-requires-clause-right c =
    (all_contained (IsFineRow c.args.store.now) c.args.rows.now c.row-item.result c.requires.fine (c.loop-row.row-index, c.loop-row-test.true, sym c.row-item.is)).right

pub tight_sides-requires-clause-normal : goal.tight_sides-requires-clause-normal
tight_sides-requires-clause-normal c =
    (all_contained (IsFineRow c.args.store.now) c.args.rows.now c.row-item.result c.requires.fine (c.loop-row.row-index, c.loop-row-test.true, sym c.row-item.is)).normal
