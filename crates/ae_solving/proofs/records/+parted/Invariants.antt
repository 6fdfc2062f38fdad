use Rattle.ae_value_table.specs.declared.patterns.Pattern.{size-Pattern}
use Rattle.ae_solving.proofs.records.+parted.Given as goal

abbrev pub decreases-parted : goal.decreases-parted
decreases-parted l = size-Pattern l.left.now
