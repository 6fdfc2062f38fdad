use Rattle.ae_bound_blocks.proofs.Marking.{both_marked}
use Rattle.ae_bound_blocks.proofs.ancestors.mark_both.Goals as goal

pub returns : goal.returns
returns c = both_marked c.args.marks.now.items c.args.lower c.args.upper c.requires.lower c.requires.upper
