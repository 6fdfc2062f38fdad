use Rattle.std.proofs.Common.{◌-◌, length}
use Rattle.ae_syntax.proofs.read_types.+more_type.Given as goal

abbrev pub decreases-more_type : goal.decreases-more_type
decreases-more_type l = length l.tokens.now - l.at
