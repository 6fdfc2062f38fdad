use Rattle.ae_just.proofs.BuiltSides.{built_lines}
use Rattle.ae_just.proofs.laws.derived_lines_are_built.Goals as goal

pub returns : goal.returns
returns c sig ts steps id d fits derives = built_lines sig ts steps id d fits derives
