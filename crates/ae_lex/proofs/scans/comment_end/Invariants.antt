use Rattle.std.proofs.Common.{◌-◌, length}
use Rattle.ae_lex.proofs.Comments.{InComment}
use Rattle.ae_lex.proofs.scans.comment_end.Given as goal

abbrev pub invariant-loop-depth : goal.invariant-loop-depth
invariant-loop-depth l = InComment l.text l.fn.from l.at l.depth

abbrev pub decreases-loop-depth : goal.decreases-loop-depth
decreases-loop-depth l = length l.text - l.at
