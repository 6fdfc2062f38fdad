use Rattle.std.proofs.Common.{◌-◌, length}
use Rattle.ae_syntax.proofs.read_exprs.+more_post.Given as goal

abbrev pub decreases-more_post : goal.decreases-more_post
decreases-more_post l = length l.tokens.now - l.at
