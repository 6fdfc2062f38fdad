use Rattle.ae_items.proofs.RangeLaws.{shortened}
use Rattle.ae_items.proofs.items.bytes_at.Goals as goal

pub returns : goal.returns
returns c = let e = shortened c.args.text.now c.args.place.from c.args.place.to in cc
