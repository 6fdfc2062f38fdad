use Rattle.ae_bound_blocks.specs.Inner.Listed.{AreListed}
use Rattle.ae_bound_blocks.proofs.tight.listed.Given as goal

abbrev pub invariant-loop-place : goal.invariant-loop-place
invariant-loop-place l = AreListed l.rows l.marks l.place l.numbers
