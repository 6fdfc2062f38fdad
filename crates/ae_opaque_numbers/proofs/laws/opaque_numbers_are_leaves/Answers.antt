use Rattle.ae_opaque_numbers.proofs.Lines.{opaque_numbers_are_leaves}
use Rattle.ae_opaque_numbers.proofs.laws.opaque_numbers_are_leaves.Goals as goal

pub returns : goal.returns
returns c = opaque_numbers_are_leaves
