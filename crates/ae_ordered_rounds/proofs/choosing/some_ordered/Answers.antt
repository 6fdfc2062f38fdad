use Rattle.ae_journal.proofs.Splits.{all_contained}
use Rattle.std.proofs.Common.{sym}
use Rattle.ae_ordered_rounds.specs.Inner.Orderable.{IsFineRow}
use Rattle.ae_ordered_rounds.proofs.choosing.some_ordered.Goals as goal

pub has_order-requires : goal.has_order-requires
has_order-requires c = record {
  fine = all_contained (IsFineRow c.args.store.now) c.args.rows.now c.row-item.result c.requires.fine (c.loop-row.row-index, c.loop-row-test.true, sym c.row-item.is);
}
