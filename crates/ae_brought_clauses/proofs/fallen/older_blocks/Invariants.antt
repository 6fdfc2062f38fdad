use Rattle.ae_brought_clauses.specs.Inner.Bringing.{AreWithin}
use Rattle.ae_brought_clauses.proofs.Places.{AreAgedBelow}
use Rattle.ae_brought_clauses.proofs.fallen.older_blocks.Given as goal

abbrev pub invariant-loop-place : goal.invariant-loop-place
invariant-loop-place l = AreWithin l.opened l.places × AreAgedBelow l.opened l.generation l.ages l.place l.places
